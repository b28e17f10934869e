use Rattle.std.proofs.Common.{Err, ap}
use Rattle.std.proofs.lemmas.Result.{err_from_is_err_and}
use Rattle.run_inputs.proofs.Ending.{Keeps-same}
use Rattle.run_inputs.proofs.Stages.{goes_on_by, meets_so, stops}
use Rattle.report_run.proofs.Reading.{file_fails, file_goes}
use Rattle.route_explain.proofs.run.explain_design.Goals as goal

pub returns-in_err-bytes-clause-runs : goal.returns-in_err-bytes-clause-runs
returns-in_err-bytes-clause-runs g c =
    let p = err_from_is_err_and c.from_residual.result c.from_residual.ensures.1 in
    rw (p.1, p.2) (λ ne. meets_so c.in_err-bytes.ensures.read (λ r h. stops _ (Keeps-same _, Keeps-same _) (file_fails _ r _ (h (λ same. ne (ap Err same))))))

pub returns-clause-runs : goal.returns-clause-runs
returns-clause-runs g c =
    λ ne. meets_so c.in_ok-bytes.ensures.read (λ r h.
    goes_on_by _ _ _ (file_goes _ r c.deref.result.now (rw c.deref.ensures.value h)) (c.explain_bytes.ensures.runs ne))
