use Rattle.std.proofs.Common.{◌≡◌, ◌∙◌, true, None, get_or, sym, ap, subst}
use Rattle.std.specs.Prelude.{is_some}
use Rattle.route_explain.specs.kept.Findings.{IsIndexOf}
use Rattle.route_explain.proofs.nets.put_net.Goals as goal

pub put_fault_line-requires-clause-index : goal.put_fault_line-requires-clause-index
put_fault_line-requires-clause-index g c =
    let found = c.args.found.now in
    let has : is_some (get_or found.faults.items c.args.net None) ≡ true = ap is_some (sym c.requires.fault ∙ c.in-Some.is) in
    let is = c.requires.found.indexed.each c.args.net c.index-index.result.now c.requires.there has in
    subst (IsIndexOf c.args.file.now.problem.now c.args.file.now.routing.now c.args.net) (sym c.index-index.ensures) is
