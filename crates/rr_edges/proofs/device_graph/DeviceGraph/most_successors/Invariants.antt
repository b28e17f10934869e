use Rattle.rr_edges.proofs.Degrees.{IsMostBelow}
use Rattle.rr_edges.proofs.device_graph.DeviceGraph.most_successors.Given as goal

abbrev pub invariant-loop-id : goal.invariant-loop-id
invariant-loop-id l = IsMostBelow l.self l.id l.most
