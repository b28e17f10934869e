use Rattle.text_output.proofs.Printing.{prints_then}
use Rattle.runs.specs.Known.{range_text}
use Rattle.runs.proofs.known.put_range.Goals as goal

pub returns : goal.returns
unfolding range_text
returns g c = prints_then (rw c.widths_word.ensures at c.push.ensures) (prints_then c.put_were.ensures c.push-2.ensures)
