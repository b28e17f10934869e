use Rattle.std.proofs.Common.{◌∙◌}
use Rattle.node_numbers.specs.kept.Strides.{stride_at}
use Rattle.channel_tables.proofs.Ranges.{mapped_next}
use Rattle.node_numbers.proofs.strides.place_strides.Goals as goal

pub loop-place-preserved : goal.loop-place-preserved
loop-place-preserved c = c.in_ok-push.ensures.items ∙ rw (c.loop-place.invariant, c.place_stride.ensures) (mapped_next (stride_at c.args.tables.now) c.loop-place.place)
