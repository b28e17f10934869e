use Rattle.std.proofs.Common.{◌∙◌}
use Rattle.channel_tables.specs.Wires.{reach_of}
use Rattle.channel_tables.proofs.Ranges.{mapped_next}
use Rattle.channel_tables.proofs.layout.Layout.reaches.Goals as goal

pub loop-track-preserved : goal.loop-track-preserved
loop-track-preserved c = c.in_ok-push.ensures.items ∙ rw (c.loop-track.invariant, c.reach_of.ensures) (mapped_next (reach_of c.args.self.now) c.loop-track.track)
