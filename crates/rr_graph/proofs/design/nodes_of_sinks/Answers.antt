use Rattle.rr_graph.proofs.Designs.{sinks_in_order}
use Rattle.rr_graph.proofs.design.nodes_of_sinks.Goals as goal

pub returns : goal.returns
returns c =
    sinks_in_order c.args.device.now c.args.placement.now c.args.sinks.now _ _ _ c.in_ok-nodes.ensures c.sort_unstable.ensures.permutation c.sort_unstable.ensures.sorted c.dedup.ensures.filtered
