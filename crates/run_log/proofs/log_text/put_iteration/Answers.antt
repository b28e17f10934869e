use Rattle.text_output.proofs.Printing.{prints_then}
use Rattle.run_log.specs.kept.LogTexts.{iteration_text}
use Rattle.run_log.proofs.log_text.put_iteration.Goals as goal

pub returns : goal.returns
unfolding iteration_text
returns g c =
    prints_then c.put_column.ensures (prints_then c.push.ensures (prints_then c.put_column-2.ensures (prints_then c.push-2.ensures c.put_point.ensures)))
