-- How often nodes were counted.
use Rattle.std.specs.Prelude.{◌≡◌, ℕ, ◌+◌, ◌==◌, List, length, get_or, count_by}

-- each of these nodes was counted once more, as often as it is among them
pub record Counts (old : List ℕ) (nodes : List ℕ) (new : List ℕ) : Type 0 where
  pub size : length new ≡ length old
  pub each : (a : ℕ) → get_or new a 0 ≡ get_or old a 0 + count_by (λ b. b == a) nodes
