use Rattle.route_report.proofs.Covering.{ended_in_order}
use Rattle.route_report.proofs.bends.ends_in_order.Goals as goal

pub returns : goal.returns
returns c =
    ended_in_order c.args.count c.args.pairs.now c.in_ok-nodes.nodes.items c.sort_unstable.new.self.items c.dedup.new.self.items
    c.in_ok-nodes.ensures c.sort_unstable.ensures.permutation c.sort_unstable.ensures.sorted c.dedup.ensures.filtered
