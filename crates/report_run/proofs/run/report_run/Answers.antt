use Rattle.std.proofs.Common.{Err, ap, ◌∙◌}
use Rattle.std.proofs.lemmas.Result.{err_from_is_err_and}
use Rattle.run_inputs.specs.declared.fault.InputFile.TheVariants as file
use Rattle.run_inputs.proofs.Designs.{placing_fails, placing_goes}
use Rattle.run_inputs.proofs.Ending.{Keeps-same}
use Rattle.run_inputs.proofs.Stages.{ends_not, goes_on_by, meets_any, meets_files, meets_so, meets_some, stops}
use Rattle.report_run.proofs.run.report_run.Goals as goal

pub returns-in_err-text-clause-runs : goal.returns-in_err-text-clause-runs
returns-in_err-text-clause-runs g c =
    let p = err_from_is_err_and c.from_residual.result c.from_residual.ensures.1 in
    rw (p.1, p.2) (λ ne. meets_files c.in_err-text.ensures.given meets_some (λ files h _. meets_any (λ r.
    stops _ (Keeps-same _) (placing_fails files _ (h (λ same. ne (ap Err same)))))))

pub returns-in_err-placed-clause-runs : goal.returns-in_err-placed-clause-runs
returns-in_err-placed-clause-runs g c =
    let p = err_from_is_err_and c.from_residual-in_err-placed.result c.from_residual-in_err-placed.ensures.1 in
    rw (p.1, p.2) (λ ne. meets_files c.in_ok-text.ensures.given c.in_err-placed.ensures.given (λ files h k. meets_any (λ r.
    stops _ (Keeps-same _) (placing_goes files _ h ∙ k (λ same. ne (ap Err same))))))

pub returns-clause-runs : goal.returns-clause-runs
returns-clause-runs g c =
    λ ne. meets_files c.in_ok-text.ensures.given c.in_ok-placed.ensures.given (λ files h k. meets_so (c.report_placed.ensures.runs ne) (λ r runs.
    goes_on_by _ _ _ (placing_goes files _ h ∙ k) runs))

pub returns-clause-net : goal.returns-clause-net
returns-clause-net g c = ends_not file.Net c.report_placed.result c.report_placed.ensures.late

pub returns-clause-place : goal.returns-clause-place
returns-clause-place g c = ends_not file.Place c.report_placed.result c.report_placed.ensures.late
