use Rattle.std.proofs.Common.{set, true, ap, ◌∙◌}
use Rattle.route_tree.proofs.Marking.{marked}
use Rattle.route_tree.proofs.stamps.Stamps.mark.Goals as goal

-- src/stamps.rt:57:5
pub returns : goal.returns
returns c = marked c.self.inside.stamp c.self.inside.marks.items c.args.number ∙ ap (λ xs. set xs c.args.number true) c.self.view_is
