use Rattle.text_output.proofs.Printing.{prints_then}
use Rattle.runs.specs.Texts.{edge_line}
use Rattle.runs.proofs.listing.put_edge_line.Goals as goal

pub returns : goal.returns
unfolding edge_line
returns g c = prints_then c.put_number.ensures (prints_then c.push.ensures (prints_then c.put_number-2.ensures (prints_then c.put_switch_if.ensures c.push-2.ensures)))
