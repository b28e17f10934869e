use Rattle.text_output.proofs.Printing.{prints_then}
use Rattle.runs.specs.Known.{gap_line}
use Rattle.runs.proofs.known.put_gap.Goals as goal

pub returns : goal.returns
unfolding gap_line
returns g c = prints_then c.put_between.ensures c.put_end.ensures
