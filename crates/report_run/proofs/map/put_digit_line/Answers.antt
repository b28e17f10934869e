use Rattle.text_output.proofs.Printing.{prints_then}
use Rattle.report_run.specs.Map.{digit_line}
use Rattle.report_run.proofs.map.put_digit_line.Goals as goal

pub returns : goal.returns
unfolding digit_line
returns g c = prints_then c.push.ensures (prints_then c.put_column_digits.ensures c.push-2.ensures)
