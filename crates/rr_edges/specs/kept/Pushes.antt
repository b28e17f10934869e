-- Numbers pushed on a list that has room for them.
use Rattle.std.specs.Prelude.{◌≡◌, ℕ, List, ◌++◌}
use Rattle.smallvec.specs.SmallVec.{SmallVec}

-- new has the elements of old and then xs, and as much room
pub record Pushes (old : SmallVec ℕ) (xs : List ℕ) (new : SmallVec ℕ) : Type 0 where
  pub items : new.items ≡ old.items ++ xs
  pub capacity : new.capacity ≡ old.capacity
