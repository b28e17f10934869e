use Rattle.std.proofs.Common.{Ok, ap, sym, ◌∙◌}
use Rattle.std.proofs.lemmas.Result.{err_from_is_err_and}
use Rattle.rr_graph.specs.Problems.{RoutingProblem}
use Rattle.run_inputs.proofs.Designs.{design_goes, placed_fails}
use Rattle.run_inputs.proofs.Stages.{meets_so}
use Rattle.run_inputs.proofs.design.Design.read.Goals as goal

pub returns-in_err-placed-clause-given : goal.returns-in_err-placed-clause-given
returns-in_err-placed-clause-given g c =
    let p = err_from_is_err_and c.from_residual.result c.from_residual.ensures.1 in
    rw (p.1, p.2) (meets_so c.in_err-placed.ensures.given (λ p k ne. placed_fails c.args.width c.args.mode c.args.text.now p c.in_err-placed.field-0.0 (k ne)))

pub returns-clause-given : goal.returns-clause-given
returns-clause-given g c =
    let n = c.in_ok-placed.placed in
    meets_so c.in_ok-placed.ensures.given (λ p k. design_goes c.args.width c.args.mode c.args.text.now p n k
    ∙ ap (λ (r : RoutingProblem). Ok (record { netlist = n.netlist; placement = n.placement; problem = r })) (sym c.in_ok-problem.ensures.made))
