use Rattle.text_output.proofs.Printing.{prints_then}
use Rattle.run_log.specs.kept.LogTexts.{filled_text}
use Rattle.run_log.proofs.log_text.put_filled.Goals as goal

pub returns : goal.returns
unfolding filled_text
returns g c =
    let filling = rw c.saturating_sub-missing.ensures at c.push.ensures in
    prints_then filling c.push-2.ensures
