use Rattle.std.proofs.Common.{◌≡◌, map}
use Rattle.routing_problem.specs.Fabric.{numbers_below}
use Rattle.route_report.specs.WireTypes.{wire_type_of}
use Rattle.route_report.proofs.wire_types.wire_type_uses.Given as goal

abbrev pub invariant-loop-kind : goal.invariant-loop-kind
invariant-loop-kind l = l.list.items ≡ map (wire_type_of l.device l.uses) (numbers_below l.kind)
