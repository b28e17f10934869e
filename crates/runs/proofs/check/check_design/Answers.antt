use Rattle.std.proofs.Common.{Err, ap}
use Rattle.std.proofs.lemmas.Result.{err_from_is_err_and}
use Rattle.run_inputs.proofs.Ending.{Keeps-same}
use Rattle.run_inputs.proofs.Stages.{goes_on_by, meets_so, stops}
use Rattle.runs.proofs.Judging.{routing_fails, routing_goes}
use Rattle.runs.proofs.check.check_design.Goals as goal

pub returns-in_err-routing-clause-runs : goal.returns-in_err-routing-clause-runs
returns-in_err-routing-clause-runs g c =
    let read = rw (c.netlist-netlist.ensures, c.problem-problem.ensures.problem) at c.in_err-routing.ensures.given in
    let p = err_from_is_err_and c.from_residual.result c.from_residual.ensures.1 in
    rw (p.1, p.2) (λ ne. meets_so read (λ r h. stops _ (Keeps-same _) (routing_fails _ r _ (h (λ same. ne (ap Err same))))))

pub returns-clause-runs : goal.returns-clause-runs
returns-clause-runs g c =
    let read = rw (c.netlist-netlist.ensures, c.problem-problem.ensures.problem) at c.in_ok-routing.ensures.given in
    λ ne. meets_so read (λ r h. goes_on_by _ _ _ (routing_goes _ r _ h) (c.judge.ensures.judges ne))
