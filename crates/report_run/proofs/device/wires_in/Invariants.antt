use Rattle.std.proofs.Common.{◌≡◌, ◌≤◌}
use Rattle.std.specs.Prelude.{count_by}
use Rattle.rr_graph.specs.Fabric.{numbers_below}
use Rattle.rr_graph.specs.Nodes.{is_wire_at}
use Rattle.report_run.proofs.device.wires_in.Given as goal

abbrev pub invariant-loop-node : goal.invariant-loop-node
invariant-loop-node l = (l.wires ≡ count_by (is_wire_at l.device) (numbers_below l.node)) × (l.wires ≤ l.node)
