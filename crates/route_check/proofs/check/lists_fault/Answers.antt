use Rattle.std.proofs.Common.{None, Some, subst, arith}
use Rattle.route_check.specs.kept.Answers.{IsFirstOf}
use Rattle.route_check.proofs.Answering.{first_fault, all_routed}
use Rattle.route_check.proofs.check.lists_fault.Goals as goal

pub returns-in-Some-clause-reported : goal.returns-in-Some-clause-reported
returns-in-Some-clause-reported g c =
    first_fault c.args.problem.now c.args.lists.now (omega (arith, c.if-lists-nets.false, c.nets.ensures.count)) c.in_ok-faults.faults.items
    c.in_ok-faults.ensures c.in-Some.fault
    (subst (λ xs. IsFirstOf xs (Some c.in-Some.fault)) c.deref.ensures.value c.in-Some.ensures)

pub overuse-requires-clause-routed : goal.overuse-requires-clause-routed
overuse-requires-clause-routed g c =
    all_routed c.args.problem.now c.args.lists.now (omega (arith, c.if-lists-nets.false, c.nets.ensures.count)) c.in_ok-faults.faults.items
    c.in_ok-faults.ensures
    (subst (λ xs. IsFirstOf xs None) c.deref.ensures.value c.in-None.ensures)
