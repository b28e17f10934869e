use Rattle.text_output.proofs.Printing.{prints_then}
use Rattle.runs.proofs.trials.put_report.Goals as goal

pub returns : goal.returns
returns g c =
    let trials = rw c.trials.ensures at c.put_trials.ensures in
    let least = rw c.least.ensures.least at c.put_least.ensures in
    prints_then trials least
