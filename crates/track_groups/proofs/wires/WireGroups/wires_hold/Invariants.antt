use Rattle.std.proofs.Common.{ℕ, ◌<◌, ◌≤◌}
use Rattle.track_groups.specs.Groups.{HasPlace}
use Rattle.track_groups.proofs.wires.WireGroups.wires_hold.Given as goal

abbrev pub invariant-loop-wire : goal.invariant-loop-wire
invariant-loop-wire l = (w : ℕ) → l.self.first_wire ≤ w → w < l.wire → HasPlace l.self w
