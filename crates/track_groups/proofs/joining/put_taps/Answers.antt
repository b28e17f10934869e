use Rattle.std.proofs.Common.{arith}
use Rattle.track_groups.proofs.Tapped.{taps_next}
use Rattle.track_groups.proofs.joining.put_taps.Goals as goal

pub loop-id-preserved : goal.loop-id-preserved
loop-id-preserved c = record {
  added = taps_next _ _ c.loop-id.id-index _ _ _ _ (omega arith) c.loop-id.invariant.added c.in_ok-put_pin.ensures.added;
  taps = c.in_ok-put_pin.ensures.taps;
}
