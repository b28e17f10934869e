use Rattle.node_cost.proofs.Noting.{none_kept}
use Rattle.node_cost.proofs.histories.Histories.new.Goals as goal

pub invariant_of-result : goal.invariant_of-result
invariant_of-result c =
    none_kept c.in_ok-histories.histories.items c.in_ok-some.some.items c.args.nodes (c.in_ok-histories.ensures.items_if_clones_equal (λ y e. e)) (c.in_ok-some.ensures.items_if_clones_equal (λ y e. e))
