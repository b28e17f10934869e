-- Histories, and a flag for each node that says whether its history is above 0.
use Rattle.std.specs.Prelude.{◌≡◌, ℕ, ◌+◌, ◌*◌, ◌/◌, ◌≤◌, ◌^◌, min, List, length, get_or, All}
use Rattle.node_cost.specs.kept.Packed.{flag_of, narrow_of}

-- a node's four bits are its flag alone
abbrev pub IsNoted : (histories words : List ℕ) → Type 0
IsNoted histories words = (id : ℕ) → narrow_of words id ≡ 8 * min (get_or histories id 0) 1

-- what all histories keep
pub record AreHistories (histories words : List ℕ) : Type 0 where
  pub bounded : All (λ k. k ≤ 2 ^ 42) histories
  pub each : length words ≡ length histories / 16 + 1
  pub noted : IsNoted histories words

-- a node's flag, next to its number, says whether its history is above 0
abbrev pub IsFlagged : (histories words : List ℕ) → Type 0
IsFlagged histories words = (id : ℕ) → flag_of words id ≡ min (get_or histories id 0) 1
