use Rattle.std.proofs.Common.{◌≡◌, ◌<◌, ◌==◌, ℕ, false, slice_index}
use Rattle.refusals.proofs.location.comment_in.Given as goal

-- no byte gone over is a number sign
abbrev pub invariant-loop-place : goal.invariant-loop-place
invariant-loop-place l = (k : ℕ) → k < l.place → (slice_index l.text k == 35) ≡ false
