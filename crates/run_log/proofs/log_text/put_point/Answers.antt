use Rattle.text_output.proofs.Printing.{prints_then}
use Rattle.run_log.specs.kept.LogTexts.{point_text}
use Rattle.run_log.proofs.log_text.put_point.Goals as goal

pub returns : goal.returns
unfolding point_text
returns g c = prints_then c.put_column.ensures (prints_then c.push.ensures c.put_part.ensures)
