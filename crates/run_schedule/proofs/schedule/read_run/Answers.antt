use Rattle.std.proofs.lemmas.Result.{err_from_is_err_and}
use Rattle.run_schedule.proofs.Heading.{bodiless, headless, whole_read}
use Rattle.run_schedule.proofs.schedule.read_run.Goals as goal

pub returns-in_err-counts : goal.returns-in_err-counts
returns-in_err-counts c =
    let fault = err_from_is_err_and c.from_residual.result c.from_residual.ensures.1 in
    rw fault.1 (headless c.in_err-counts.ensures)

pub returns-in_err-trials : goal.returns-in_err-trials
returns-in_err-trials c =
    let fault = err_from_is_err_and c.from_residual-in_err-trials.result c.from_residual-in_err-trials.ensures.1 in
    rw (fault.1, fault.2) (bodiless c.in_ok-counts.ensures c.in_err-trials.ensures)

pub returns : goal.returns
returns c =
    let front = rw (c.rest-bytes.ensures, c.rest.ensures) at c.split_at.ensures.front in
    whole_read c.in_ok-counts.ensures c.split_at.result.0.now c.in_ok-trials.trials front c.in_ok-trials.ensures
