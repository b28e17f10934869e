use Rattle.std.proofs.Common.{◌≡◌, ◌==◌, ◌≤◌}
use Rattle.std.specs.Prelude.{count_by}
use Rattle.routing_problem.specs.Fabric.{numbers_below}
use Rattle.routing_problem.specs.Wires.{track_type}
use Rattle.route_report.proofs.wire_types.count_tracks.Given as goal

abbrev pub invariant-loop-track : goal.invariant-loop-track
invariant-loop-track l = (l.count ≡ count_by (λ t. track_type l.device t == l.kind) (numbers_below l.track)) × (l.count ≤ l.track)
