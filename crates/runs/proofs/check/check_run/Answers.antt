use Rattle.std.proofs.Common.{Err, ap}
use Rattle.std.proofs.lemmas.Result.{err_from_is_err_and}
use Rattle.run_inputs.specs.declared.fault.InputFile.TheVariants as file
use Rattle.run_inputs.proofs.AfterDesigns.{ends_at_design, ends_at_text, goes_on_after}
use Rattle.run_inputs.proofs.Ending.{Keeps-same}
use Rattle.run_inputs.proofs.Stages.{ends_not}
use Rattle.runs.proofs.check.check_run.Goals as goal

pub returns-in_err-text-clause-runs : goal.returns-in_err-text-clause-runs
returns-in_err-text-clause-runs g c =
    let p = err_from_is_err_and c.from_residual.result c.from_residual.ensures.1 in
    rw (p.1, p.2) (λ ne. ends_at_text _ _ _ _ (Keeps-same _) (λ same. ne (ap Err same)) c.in_err-text.ensures.given)

pub returns-in_err-design-clause-runs : goal.returns-in_err-design-clause-runs
returns-in_err-design-clause-runs g c =
    let p = err_from_is_err_and c.from_residual-in_err-design.result c.from_residual-in_err-design.ensures.1 in
    rw (p.1, p.2) (λ ne. ends_at_design _ _ _ _ (Keeps-same _) (λ same. ne (ap Err same)) c.in_ok-text.ensures.given c.in_err-design.ensures.given)

pub returns-clause-runs : goal.returns-clause-runs
returns-clause-runs g c = λ ne. goes_on_after _ _ _ _ _ _ c.in_ok-text.ensures.given c.in_ok-design.ensures.given (c.check_design.ensures.runs ne)

pub returns-clause-net : goal.returns-clause-net
returns-clause-net g c = ends_not file.Net c.check_design.result c.check_design.ensures.late

pub returns-clause-place : goal.returns-clause-place
returns-clause-place g c = ends_not file.Place c.check_design.result c.check_design.ensures.late
