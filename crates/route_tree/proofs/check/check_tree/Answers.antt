use Rattle.std.proofs.Common.{◌∙◌, IsOk, ap, subst, sym}
use Rattle.routing_problem.specs.Problems.{net_in}
use Rattle.route_tree.specs.Rows.{pairs_of, IsTree}
use Rattle.route_tree.specs.kept.Ladder.{fault_of, or_ok}
use Rattle.route_tree.proofs.Hanging.{rows_hang, ok_none, err_some}
use Rattle.route_tree.proofs.Lawful.{routes, faults}
use Rattle.route_tree.proofs.check.check_tree.Goals as goal

pub returns-clause-route : goal.returns-clause-route
returns-clause-route c =
    let p = c.args.problem.now in
    let i = c.args.net in
    let rows = c.args.tree.now in
    let answer = fault_of p i (pairs_of rows) in
    let reported = c.or_ok.ensures ∙ ap or_ok (c.fault.ensures.fault ∙ ap (λ r. fault_of p i (pairs_of r)) (c.deref.ensures.value ∙ c.tree.view_is)) in
    let tree = subst IsTree c.tree.view_is c.tree.invariant in
    let law = routes p c.fault.ensures.limits i (pairs_of rows) (rows_hang rows (net_in p.nets i).source tree) in
    (λ h. law.0 ((ok_none answer).0 (subst IsOk reported h)), λ r. subst IsOk (sym reported) ((ok_none answer).1 (law.1 r)))

pub returns-clause-faults : goal.returns-clause-faults
returns-clause-faults c = λ fault.
    let p = c.args.problem.now in
    let i = c.args.net in
    let rows = c.args.tree.now in
    let answer = fault_of p i (pairs_of rows) in
    let reported = c.or_ok.ensures ∙ ap or_ok (c.fault.ensures.fault ∙ ap (λ r. fault_of p i (pairs_of r)) (c.deref.ensures.value ∙ c.tree.view_is)) in
    let tree = subst IsTree c.tree.view_is c.tree.invariant in
    let law = faults p c.fault.ensures.limits i (pairs_of rows) (rows_hang rows (net_in p.nets i).source tree) fault in
    (λ h. law.0 ((err_some answer fault).0 (sym reported ∙ h)), λ r. reported ∙ (err_some answer fault).1 (law.1 r))
