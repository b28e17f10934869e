use Rattle.std.proofs.Common.{ℕ, ◌<◌}
use Rattle.track_groups.specs.Groups.{on_track, IsTrack}
use Rattle.track_groups.proofs.wires.WireGroups.group_holds.Given as goal

abbrev pub invariant-loop-track : goal.invariant-loop-track
invariant-loop-track l = (j : ℕ) → j < l.track → IsTrack l.device l.self (on_track l.group j)
