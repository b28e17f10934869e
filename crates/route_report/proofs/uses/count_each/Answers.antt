use Rattle.route_report.proofs.Counting.{node_room}
use Rattle.route_report.proofs.uses.count_each.Goals as goal

pub count_node-requires-clause-room : goal.count_node-requires-clause-room
count_node-requires-clause-room c =
    node_room c.args.nodes.now c.args.counts.now c.loop-node.counts c.loop-node.node-index c.loop-node-test.true c.requires.room c.loop-node.invariant
