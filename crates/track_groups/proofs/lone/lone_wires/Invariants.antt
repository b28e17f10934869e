use Rattle.std.proofs.Common.{◌≡◌, map}
use Rattle.routing_problem.specs.Fabric.{numbers_below}
use Rattle.track_groups.specs.kept.Lone.{lone_at}
use Rattle.track_groups.proofs.lone.lone_wires.Given as goal

abbrev pub invariant-loop-index : goal.invariant-loop-index
invariant-loop-index l = l.groups.items ≡ map (lone_at l.device l.first_wire) (numbers_below l.index)
