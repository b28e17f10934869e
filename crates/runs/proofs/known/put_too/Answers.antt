use Rattle.text_output.proofs.Printing.{prints_then}
use Rattle.runs.specs.Known.{too_text}
use Rattle.runs.proofs.known.put_too.Goals as goal

pub returns : goal.returns
unfolding too_text
returns g c = prints_then c.push.ensures (prints_then c.put_were.ensures c.push-2.ensures)
