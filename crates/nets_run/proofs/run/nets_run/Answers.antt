use Rattle.std.proofs.Common.{Err, ap, ◌∙◌}
use Rattle.std.proofs.lemmas.Result.{err_from_is_err_and}
use Rattle.run_inputs.specs.declared.fault.InputFile.TheVariants as file
use Rattle.run_inputs.proofs.Designs.{text_fails, text_goes}
use Rattle.run_inputs.proofs.Ending.{Keeps-same}
use Rattle.run_inputs.proofs.Stages.{ends_not, goes_on_by, meets_files, meets_some, stops}
use Rattle.nets_run.proofs.run.nets_run.Goals as goal

pub returns-in_err-text-clause-runs : goal.returns-in_err-text-clause-runs
returns-in_err-text-clause-runs g c =
    let p = err_from_is_err_and c.from_residual.result c.from_residual.ensures.1 in
    rw (p.1, p.2) (λ ne. meets_files c.in_err-text.ensures.given meets_some (λ files h _.
    stops _ (Keeps-same _) (text_fails _ _ files _ (h (λ same. ne (ap Err same))))))

pub returns-in_err-design-clause-runs : goal.returns-in_err-design-clause-runs
returns-in_err-design-clause-runs g c =
    let p = err_from_is_err_and c.from_residual-in_err-design.result c.from_residual-in_err-design.ensures.1 in
    rw (p.1, p.2) (λ ne. meets_files c.in_ok-text.ensures.given c.in_err-design.ensures.given (λ files h k.
    stops _ (Keeps-same _) (text_goes _ _ files _ h ∙ k (λ same. ne (ap Err same)))))

pub returns-clause-runs : goal.returns-clause-runs
returns-clause-runs g c =
    λ ne. meets_files c.in_ok-text.ensures.given c.in_ok-design.ensures.given (λ files h k.
    goes_on_by _ _ _ (text_goes _ _ files _ h ∙ k) c.print_nets.ensures.prints)

pub returns-clause-net : goal.returns-clause-net
returns-clause-net g c = ends_not file.Net c.print_nets.result c.print_nets.ensures.late

pub returns-clause-place : goal.returns-clause-place
returns-clause-place g c = ends_not file.Place c.print_nets.result c.print_nets.ensures.late
