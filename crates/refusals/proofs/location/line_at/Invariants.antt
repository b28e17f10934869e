use Rattle.std.proofs.Common.{◌≡◌, ◌==◌, ℕ, ◌<◌, false}
use Rattle.vpr_text.specs.Words.{number_at}
use Rattle.refusals.proofs.location.line_at.Given as goal

-- no line gone over has the number
abbrev pub invariant-loop-line : goal.invariant-loop-line
invariant-loop-line l = (k : ℕ) → k < l.line → (number_at l.lines k == l.number) ≡ false
