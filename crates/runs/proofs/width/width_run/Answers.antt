use Rattle.std.proofs.Common.{◌∙◌}
use Rattle.std.proofs.lemmas.Result.{err_from_is_err_and}
use Rattle.run_inputs.specs.declared.fault.InputFile.TheVariants as file
use Rattle.run_inputs.proofs.Designs.{placing_fails, placing_goes}
use Rattle.run_inputs.proofs.Ending.{Keeps-same}
use Rattle.run_inputs.proofs.Stages.{ends_not, goes_on_by, meets_files, meets_some, stops}
use Rattle.runs.proofs.Writing.{not_memory}
use Rattle.runs.proofs.width.width_run.Goals as goal

pub returns-in_err-text-clause-runs : goal.returns-in_err-text-clause-runs
returns-in_err-text-clause-runs g c =
    let p = err_from_is_err_and c.from_residual.result c.from_residual.ensures.1 in
    rw (p.1, p.2) (λ bound. meets_files c.in_err-text.ensures.given meets_some (λ files h _.
    stops _ (Keeps-same _, Keeps-same _, Keeps-same _) (placing_fails files _ (h (not_memory _ bound)))))

pub returns-in_err-placed-clause-runs : goal.returns-in_err-placed-clause-runs
returns-in_err-placed-clause-runs g c =
    let p = err_from_is_err_and c.from_residual-in_err-placed.result c.from_residual-in_err-placed.ensures.1 in
    rw (p.1, p.2) (λ bound. meets_files c.in_ok-text.ensures.given c.in_err-placed.ensures.given (λ files h k.
    stops _ (Keeps-same _, Keeps-same _, Keeps-same _) (placing_goes files _ h ∙ k (not_memory _ bound))))

pub returns-clause-runs : goal.returns-clause-runs
returns-clause-runs g c =
    λ bound. meets_files c.in_ok-text.ensures.given c.in_ok-placed.ensures.given (λ files h k.
    goes_on_by _ _ _ (placing_goes files _ h ∙ k) (c.width_placed.ensures.runs bound))

pub returns-clause-net : goal.returns-clause-net
returns-clause-net g c = ends_not file.Net c.width_placed.result c.width_placed.ensures.late

pub returns-clause-place : goal.returns-clause-place
returns-clause-place g c = ends_not file.Place c.width_placed.result c.width_placed.ensures.late
