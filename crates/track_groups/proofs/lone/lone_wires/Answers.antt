use Rattle.std.proofs.Common.{◌∙◌}
use Rattle.routing_problem.proofs.Ranges.{mapped_next}
use Rattle.track_groups.specs.kept.Lone.{lone_at}
use Rattle.track_groups.proofs.lone.lone_wires.Goals as goal

pub loop-index-preserved : goal.loop-index-preserved
loop-index-preserved c =
    c.in_ok-push.ensures.items ∙ rw (c.loop-index.invariant, c.lone_wire.ensures) (mapped_next (lone_at c.args.device.now c.args.first_wire) c.loop-index.index)
