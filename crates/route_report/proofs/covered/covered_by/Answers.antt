use Rattle.route_report.proofs.Covering.{covered_in_order}
use Rattle.route_report.proofs.covered.covered_by.Goals as goal

pub returns : goal.returns
returns c =
    covered_in_order c.args.count c.args.source c.args.pairs.now c.in_ok-nodes.nodes.items c.push_below.new.nodes.items c.sort_unstable.new.self.items c.dedup.new.self.items
    c.in_ok-nodes.ensures c.in_ok-push_below.ensures c.sort_unstable.ensures.permutation c.sort_unstable.ensures.sorted c.dedup.ensures.filtered
