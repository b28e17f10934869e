use Rattle.std.proofs.Common.{refl}
use Rattle.std.proofs.lemmas.Result.{err_from_is_err_and}
use Rattle.runs.proofs.Telling.{tells_none}
use Rattle.runs.proofs.lesser_widths.try_lesser.Goals as goal

pub returns-in_err-outcome : goal.returns-in_err-outcome
returns-in_err-outcome g c =
    let p = err_from_is_err_and c.from_residual.result c.from_residual.ensures.1 in
    rw (p.1, p.2) (c.in_err-outcome.ensures.free, refl, tells_none _)

pub returns-in_err-is_routed : goal.returns-in_err-is_routed
returns-in_err-is_routed g c =
    let p = err_from_is_err_and c.from_residual-in_err-is_routed.result c.from_residual-in_err-is_routed.ensures.1 in
    rw (p.1, p.2) (c.in_err-is_routed.ensures.0, c.in_err-is_routed.ensures.1, tells_none _)

pub returns : goal.returns
returns g c =
    let line = rw c.end_of-end.ensures at c.tell_line.ensures in
    (c.in_ok-outcome.outcome, c.in_ok-outcome.ensures.outcome, c.in_ok-is_routed.ensures.0, c.in_ok-is_routed.ensures.1, line)
