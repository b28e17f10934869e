use Rattle.std.proofs.Common.{ℕ, ◌<◌, ◌≤◌, ◌/◌}
use Rattle.wavefront.specs.kept.Bounds.{wires_for}
use Rattle.wave_ground.specs.kept.EightBoxes.{gap_at, gap_beside}
use Rattle.wave_ground.proofs.eight_boxes.fewest_short.Given as goal

abbrev pub invariant-loop-lane : goal.invariant-loop-lane
invariant-loop-lane l = (k : ℕ) → k < l.lane → l.fewest / 64 ≤ wires_for 0 (gap_at l.along k) (gap_beside l.across k)
