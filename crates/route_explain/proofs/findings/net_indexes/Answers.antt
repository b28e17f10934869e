use Rattle.route_explain.proofs.Indexed.{one_indexed}
use Rattle.route_explain.proofs.findings.net_indexes.Goals as goal

pub loop-net-preserved : goal.loop-net-preserved
loop-net-preserved c =
    one_indexed c.args.problem.now c.args.lists.now c.args.faults.now c.loop-net.net c.loop-net.indexes.items c.push.new.self.items c.in_ok-index_of_net.field-0
    c.in_ok-push.ensures.items c.in_ok-index_of_net.ensures c.loop-net.invariant
