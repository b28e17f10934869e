use Rattle.std.proofs.Common.{subst, ◌∙◌}
use Rattle.std.proofs.lemmas.Result.{IfOk-weaker}
use Rattle.route_check.proofs.RoutingFaults.{reported_routed, reported_first}
use Rattle.route_check.specs.kept.Answers.{JudgesRouting}
use Rattle.std.specs.Prelude.{IfOk}
use Rattle.route_check.proofs.check.check_routing.Goals as goal

pub returns-clause-routed : goal.returns-clause-routed
returns-clause-routed g c =
    let p = c.args.problem.now in
    let lists = c.args.routing.now in
    let answer = c.lists_fault.result in
    IfOk-weaker answer _ _ (reported_routed p lists)
    (subst (λ ls. IfOk answer (JudgesRouting p ls)) (c.deref.ensures.value ∙ c.routing.view_is) c.lists_fault.ensures.reported)

pub returns-clause-first : goal.returns-clause-first
returns-clause-first g c = λ fault.
    let p = c.args.problem.now in
    let lists = c.args.routing.now in
    let answer = c.lists_fault.result in
    IfOk-weaker answer _ _ (λ o is. reported_first p lists o fault is)
    (subst (λ ls. IfOk answer (JudgesRouting p ls)) (c.deref.ensures.value ∙ c.routing.view_is) c.lists_fault.ensures.reported)
