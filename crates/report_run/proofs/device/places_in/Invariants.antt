use Rattle.std.proofs.Common.{◌≡◌, ◌*◌, ◌≤◌}
use Rattle.std.specs.List.{sum_by}
use Rattle.rr_graph.specs.Fabric.{numbers_below}
use Rattle.route_report.specs.Wirelength.{places_at}
use Rattle.report_run.proofs.device.places_in.Given as goal

abbrev pub invariant-loop-node : goal.invariant-loop-node
invariant-loop-node l = (l.places ≡ sum_by (places_at l.device) (numbers_below l.node)) × (l.places ≤ 128 * l.node)
