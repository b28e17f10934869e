use Rattle.text_output.proofs.Printing.{prints_then}
use Rattle.runs.specs.LesserWidths.{width_text}
use Rattle.runs.proofs.lesser_widths.put_line.Goals as goal

pub returns : goal.returns
unfolding width_text
returns g c = prints_then c.push.ensures (prints_then c.put_number.ensures (prints_then c.push-2.ensures c.put_end.ensures))
