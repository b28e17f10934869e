use Rattle.std.proofs.Common.{◌≡◌, map}
use Rattle.routing_problem.specs.Fabric.{numbers_below}
use Rattle.track_groups.specs.kept.Lone.{first_track}
use Rattle.track_groups.proofs.lone.lone_places.Given as goal

abbrev pub invariant-loop-group : goal.invariant-loop-group
invariant-loop-group l = l.places.items ≡ map first_track (numbers_below l.group)
