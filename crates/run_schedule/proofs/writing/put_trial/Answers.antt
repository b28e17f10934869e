use Rattle.text_output.proofs.Printing.{prints_then}
use Rattle.run_schedule.specs.ScheduleTexts.{trial_text}
use Rattle.run_schedule.proofs.writing.put_trial.Goals as goal

pub returns : goal.returns
unfolding trial_text
returns g c =
    let width = rw (c.from.ensures, c.width.ensures) at c.put_numbered.ensures in
    let iterations = rw c.iterations.ensures at c.put_iterations.ensures in
    prints_then width iterations
