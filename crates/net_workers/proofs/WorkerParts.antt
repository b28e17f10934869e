-- One part more.
use Rattle.std.proofs.Common.{inl, inr, ℕ, ◌+◌, List, [], ◌∷◌, ◌++◌, arith, length-append}
use Rattle.std.proofs.lemmas.Bool.{cases_lt}
use Rattle.std.proofs.lemmas.Grind.{common_steps}
use Rattle.net_workers.specs.WorkerParts.{Part, AreParts, no_turns}

pub parts_more : (ps : List Part) (n : ℕ) → AreParts ps n → AreParts (ps ++ no_turns n ∷ []) (n + 1)
parts_more ps n parts = record {
  count = omega (arith, parts.count, length-append ps (no_turns n ∷ []));
  each = λ w d low.
      elim (cases_lt w n) [
        | inl below ↦ let here = parts.each w d below in grind (arith, common_steps)
        | inr at ↦ grind (arith, common_steps)
      ];
}
