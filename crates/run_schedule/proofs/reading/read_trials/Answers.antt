use Rattle.std.proofs.Common.{sym, ◌∙◌}
use Rattle.std.proofs.lemmas.Result.{err_from_is_err_and}
use Rattle.run_schedule.proofs.Trying.{no_trial_read, one_trial_read, run_read, trial_refused, trial_shorter}
use Rattle.run_schedule.proofs.reading.read_trials.Goals as goal

pub loop-alloc-init : goal.loop-alloc-init
loop-alloc-init c = rw c.new-trials.ensures (no_trial_read c.args.nets c.args.workers c.args.text.now)

pub loop-alloc-smaller : goal.loop-alloc-smaller
loop-alloc-smaller c = trial_shorter c.in_ok-trial.trial c.loop-alloc.text c.read_trial.new.text c.in_ok-trial.ensures.found.1

pub loop-alloc-preserved : goal.loop-alloc-preserved
loop-alloc-preserved c =
    let unfinished = rw c.rest.ensures at (sym c.has_trial.ensures ∙ c.loop-alloc-test.true) in
    rw c.in_ok-push.ensures.ok (one_trial_read c.loop-alloc.invariant unfinished c.in_ok-trial.ensures)

pub returns-in_err-trial : goal.returns-in_err-trial
returns-in_err-trial c =
    let unfinished = rw c.rest.ensures at (sym c.has_trial.ensures ∙ c.loop-alloc-test.true) in
    let fault = err_from_is_err_and c.from_residual.result c.from_residual.ensures.1 in
    rw (fault.1, fault.2) (trial_refused c.loop-alloc.invariant unfinished c.in_err-trial.ensures)

pub returns : goal.returns
returns c =
    let finished = rw c.rest.ensures at (sym c.has_trial.ensures ∙ c.loop-alloc-test.false) in
    run_read c.loop-alloc.invariant finished
