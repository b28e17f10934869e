use Rattle.std.proofs.Common.{◌≡◌, map}
use Rattle.routing_problem.specs.Fabric.{numbers_below}
use Rattle.route_report.specs.NetFigures.{wires_of}
use Rattle.route_report.proofs.each_net.wires_of_nets.Given as goal

abbrev pub invariant-loop-net : goal.invariant-loop-net
invariant-loop-net l = l.wires.items ≡ map (wires_of l.problem l.lists) (numbers_below l.net)
