use Rattle.std.proofs.Common.{◌≡◌, map}
use Rattle.routing_problem.specs.Fabric.{numbers_below}
use Rattle.route_report.specs.Wirelength.{wirelength_of}
use Rattle.route_report.proofs.wirelength.lengths_of.Given as goal

abbrev pub invariant-loop-net : goal.invariant-loop-net
invariant-loop-net l = l.lengths.items ≡ map (wirelength_of l.problem l.lists) (numbers_below l.net)
