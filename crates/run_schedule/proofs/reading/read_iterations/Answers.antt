use Rattle.std.proofs.Common.{sym, ◌∙◌}
use Rattle.std.proofs.lemmas.Result.{err_from_is_err_and}
use Rattle.run_schedule.proofs.Trying.{iteration_read, iteration_refused, iteration_shorter, no_iteration_read, trial_read}
use Rattle.run_schedule.proofs.reading.read_iterations.Goals as goal

pub loop-alloc-init : goal.loop-alloc-init
loop-alloc-init c = rw c.new-trial.ensures (no_iteration_read c.args.nets c.args.workers c.args.width c.args.text.now)

pub loop-alloc-smaller : goal.loop-alloc-smaller
loop-alloc-smaller c = iteration_shorter c.loop-alloc.number c.in_ok-turns.turns c.loop-alloc.text c.read_iteration.new.text c.in_ok-turns.ensures.found.1

pub loop-alloc-preserved : goal.loop-alloc-preserved
loop-alloc-preserved c =
    let unfinished = rw c.rest.ensures at (sym c.has_iteration.ensures ∙ c.loop-alloc-test.true) in
    rw c.in_ok-push.ensures.ok (iteration_read c.loop-alloc.invariant unfinished c.in_ok-turns.ensures)

pub returns-in_err-turns : goal.returns-in_err-turns
returns-in_err-turns c =
    let unfinished = rw c.rest.ensures at (sym c.has_iteration.ensures ∙ c.loop-alloc-test.true) in
    let fault = err_from_is_err_and c.from_residual.result c.from_residual.ensures.1 in
    rw (fault.1, fault.2) (iteration_refused c.loop-alloc.invariant unfinished c.in_err-turns.ensures)

pub returns : goal.returns
returns c =
    let finished = rw c.rest.ensures at (sym c.has_iteration.ensures ∙ c.loop-alloc-test.false) in
    trial_read c.loop-alloc.invariant c.requires.0 c.requires.1 finished
