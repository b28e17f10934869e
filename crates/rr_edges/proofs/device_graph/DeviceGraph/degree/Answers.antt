use Rattle.std.proofs.Common.{length, sym, ap, arith}
use Rattle.rr_edges.proofs.NodeSuccessors.{node_listed, few_successors}
use Rattle.rr_edges.proofs.device_graph.DeviceGraph.degree.Goals as goal

pub returns-in-Some-clause-few : goal.returns-in-Some-clause-few
returns-in-Some-clause-few c =
    let f = c.args.self.now in
    let within = c.in-Some.ensures.limits in
    let listed = node_listed f within c.args.id c.in-Some.node (sym c.in-Some.ensures.node) in
    omega (arith, c.degree_of.ensures, ap length listed, few_successors f within c.args.id)
