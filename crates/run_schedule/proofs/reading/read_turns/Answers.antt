use Rattle.std.proofs.Common.{sym, ◌∙◌}
use Rattle.std.proofs.lemmas.Result.{err_from_is_err_and}
use Rattle.run_schedule.proofs.Turning.{all_turns_read, no_turn_read, one_turn_read, turn_shorter}
use Rattle.run_schedule.proofs.reading.read_turns.Goals as goal

pub loop-text-smaller : goal.loop-text-smaller
loop-text-smaller c = turn_shorter c.in_ok-read_turn.field-0 c.loop-text.text c.read_turn.new.text c.in_ok-read_turn.ensures.read.found.1

pub loop-text-preserved : goal.loop-text-preserved
loop-text-preserved c =
    let unfinished = rw c.rest.ensures at (sym c.is_past_turns.ensures ∙ c.loop-text-test.true) in
    rw c.in_ok-read_turn.ensures.made (one_turn_read c.ranges.nets.fits c.loop-text.invariant unfinished c.in_ok-read_turn.ensures.read)

pub returns-in_err-read_turn : goal.returns-in_err-read_turn
returns-in_err-read_turn c =
    let unfinished = rw c.rest.ensures at (sym c.is_past_turns.ensures ∙ c.loop-text-test.true) in
    let fault = err_from_is_err_and c.from_residual-in_err-read_turn.result c.from_residual-in_err-read_turn.ensures.1 in
    rw (fault.1, fault.2) (no_turn_read c.ranges.nets.fits c.loop-text.invariant unfinished c.in_err-read_turn.ensures.read)

pub returns : goal.returns
returns c =
    let finished = rw c.rest.ensures at (sym c.is_past_turns.ensures ∙ c.loop-text-test.false) in
    all_turns_read c.ranges.nets.fits c.loop-text.invariant finished c.finish.result c.finish.ensures
