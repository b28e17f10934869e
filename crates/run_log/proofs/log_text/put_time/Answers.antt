use Rattle.text_output.proofs.Printing.{prints_then}
use Rattle.run_log.specs.kept.LogTexts.{time_text}
use Rattle.run_log.proofs.log_text.put_time.Goals as goal

pub returns : goal.returns
unfolding time_text
returns g c =
    prints_then c.push.ensures (prints_then c.put_point.ensures c.push-2.ensures)
