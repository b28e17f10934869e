use Rattle.std.proofs.Common.{◌≡◌}
use Rattle.track_groups.proofs.merging.put_drive.Given as goal

abbrev pub invariant-loop-index : goal.invariant-loop-index
invariant-loop-index l = l.drives.items ≡ l.fn.drives.items
