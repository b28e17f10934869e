use Rattle.std.proofs.Common.{◌≤◌, arith, subst}
use Rattle.node_cost.specs.Views.{others_in}
use Rattle.node_cost.specs.kept.Packed.{counts_of}
use Rattle.node_cost.proofs.Packing.{length_counts}
use Rattle.node_cost.proofs.Views.{others_bounded}
use Rattle.node_cost.proofs.view.View.len.Goals as goal

pub returns-clause-others : goal.returns-clause-others
returns-clause-others c id =
    let long = length_counts c.self.inside.words.items c.self.inside.wide.items in
    subst (λ v. others_in v id ≤ 65535) c.self.view_is
    (others_bounded (counts_of c.self.inside.words.items c.self.inside.wide.items) c.self.inside.histories (omega (arith, c.self.invariant.size, long)) c.self.invariant.bounded id)
