use Rattle.std.proofs.Common.{ℕ, ◌<◌, ◌≤◌, slice_index}
use Rattle.group_wave.specs.kept.Wave.{IsOpen}
use Rattle.group_wave.proofs.wave.Wave.took_all.Given as goal

-- those so far were taken
abbrev pub invariant-loop-at : goal.invariant-loop-at
invariant-loop-at g l = (p : ℕ) → l.from ≤ p → p < l.at → IsOpen l.ground l.self (slice_index l.ground.space.net.sinks p) → ⊥
