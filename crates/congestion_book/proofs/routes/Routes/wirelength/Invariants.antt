use Rattle.std.proofs.Common.{◌≡◌, ◌*◌, ◌^◌, ◌≤◌}
use Rattle.std.specs.List.{sum_by}
use Rattle.routing_problem.specs.Fabric.{numbers_below}
use Rattle.route_report.specs.Wirelength.{wirelength_of}
use Rattle.congestion_book.specs.kept.Fields.{lists_kept}
use Rattle.congestion_book.proofs.routes.Routes.wirelength.Given as goal

abbrev pub invariant-loop-net : goal.invariant-loop-net
invariant-loop-net l = (l.total ≡ sum_by (wirelength_of l.problem (lists_kept l.self)) (numbers_below l.net)) × (l.total ≤ 2 ^ 40 * l.net)
