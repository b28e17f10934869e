use Rattle.std.proofs.Common.{◌≡◌, ◌≤◌, take}
use Rattle.std.specs.Prelude.{count_by}
use Rattle.routing_problem.specs.Nodes.{is_wire_at}
use Rattle.route_report.proofs.each_net.wires_among.Given as goal

abbrev pub invariant-loop-node : goal.invariant-loop-node
invariant-loop-node l = (l.wires ≡ count_by (is_wire_at l.device) (take l.node-index l.nodes)) × (l.wires ≤ l.node-index)
