use Rattle.std.proofs.Common.{◌≡◌, ◌*◌, ◌≤◌, take}
use Rattle.std.specs.List.{sum_by}
use Rattle.route_report.specs.Wirelength.{places_at}
use Rattle.route_report.proofs.wirelength.places_of.Given as goal

abbrev pub invariant-loop-node : goal.invariant-loop-node
invariant-loop-node l = (l.places ≡ sum_by (places_at l.device) (take l.node-index l.nodes)) × (l.places ≤ 128 * l.node-index)
