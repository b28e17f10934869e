use Rattle.std.proofs.Common.{◌≡◌, ◌*◌, ◌≤◌, if◌then◌else◌}
use Rattle.std.specs.List.{sum_by}
use Rattle.routing_problem.specs.Fabric.{numbers_below}
use Rattle.route_report.specs.Covered.{is_used}
use Rattle.route_report.specs.Wirelength.{places_at}
use Rattle.route_report.proofs.figures.places_used.Given as goal

abbrev pub invariant-loop-node : goal.invariant-loop-node
invariant-loop-node l =
    (l.places ≡ sum_by (λ a. if is_used l.uses a then places_at l.device a else 0) (numbers_below l.node)) × (l.places ≤ 128 * l.node)
