use Rattle.std.proofs.Common.{◌∙◌}
use Rattle.routing_problem.proofs.Ranges.{mapped_next}
use Rattle.track_groups.specs.kept.Lone.{first_track}
use Rattle.track_groups.proofs.lone.lone_places.Goals as goal

pub loop-group-preserved : goal.loop-group-preserved
loop-group-preserved c = c.in_ok-push.ensures.items ∙ rw c.loop-group.invariant (mapped_next first_track c.loop-group.group)
