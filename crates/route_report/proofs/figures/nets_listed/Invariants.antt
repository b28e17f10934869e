use Rattle.std.proofs.Common.{◌≡◌, ◌≤◌}
use Rattle.std.specs.Prelude.{count_by}
use Rattle.std.specs.Option.{is_some}
use Rattle.routing_problem.specs.Fabric.{numbers_below}
use Rattle.route_tree.specs.Usage.{list_in}
use Rattle.route_report.proofs.figures.nets_listed.Given as goal

abbrev pub invariant-loop-net : goal.invariant-loop-net
invariant-loop-net l = (l.count ≡ count_by (λ i. is_some (list_in l.lists i)) (numbers_below l.net)) × (l.count ≤ l.net)
