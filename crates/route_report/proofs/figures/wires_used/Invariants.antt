use Rattle.std.proofs.Common.{◌≡◌, ◌≤◌}
use Rattle.std.specs.Prelude.{◌&&◌, count_by}
use Rattle.routing_problem.specs.Fabric.{numbers_below}
use Rattle.routing_problem.specs.Nodes.{is_wire_at}
use Rattle.route_report.specs.Covered.{is_used}
use Rattle.route_report.proofs.figures.wires_used.Given as goal

abbrev pub invariant-loop-node : goal.invariant-loop-node
invariant-loop-node l = (l.count ≡ count_by (λ a. is_wire_at l.device a && is_used l.uses a) (numbers_below l.node)) × (l.count ≤ l.node)
