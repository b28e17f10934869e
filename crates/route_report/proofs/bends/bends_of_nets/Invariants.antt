use Rattle.std.proofs.Common.{◌≡◌, map}
use Rattle.routing_problem.specs.Fabric.{numbers_below}
use Rattle.route_report.specs.Bends.{bends_of}
use Rattle.route_report.proofs.bends.bends_of_nets.Given as goal

abbrev pub invariant-loop-net : goal.invariant-loop-net
invariant-loop-net l = l.bends.items ≡ map (bends_of l.problem l.lists) (numbers_below l.net)
