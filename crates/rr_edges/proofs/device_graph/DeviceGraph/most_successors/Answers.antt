use Rattle.std.proofs.Common.{arith}
use Rattle.rr_edges.proofs.Degrees.{most_of_none, most_of_more, most_of_all}
use Rattle.rr_edges.proofs.device_graph.DeviceGraph.most_successors.Goals as goal

pub loop-id-init : goal.loop-id-init
loop-id-init c = most_of_none c.args.self.now

pub loop-id-preserved : goal.loop-id-preserved
loop-id-preserved c =
    most_of_more c.args.self.now c.loop-id.id c.loop-id.most c.degree.result c.max-most.result c.loop-id.invariant c.degree.ensures.count c.degree.ensures.few (omega (arith, c.max-most.ensures))

pub returns-clause-most : goal.returns-clause-most
returns-clause-most c =
    most_of_all c.args.self.now c.loop-id.id c.loop-id.most c.loop-id.invariant (omega (arith, c.node_count-id-end.ensures.count, c.loop-id-test.false))
