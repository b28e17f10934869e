use Rattle.std.proofs.Common.{◌≡◌}
use Rattle.track_groups.proofs.joining.put_tap.Given as goal

abbrev pub invariant-loop-index : goal.invariant-loop-index
invariant-loop-index l = l.taps.items ≡ l.fn.taps.items
