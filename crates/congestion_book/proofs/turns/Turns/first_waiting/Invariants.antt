use Rattle.std.proofs.Common.{◌≡◌, ℕ, ◌<◌, None}
use Rattle.congestion_book.specs.Turns.{holder_in}
use Rattle.congestion_book.proofs.turns.Turns.first_waiting.Given as goal

abbrev pub invariant-loop-net : goal.invariant-loop-net
invariant-loop-net l = (k : ℕ) → k < l.net → holder_in l.self.holders k ≡ None
