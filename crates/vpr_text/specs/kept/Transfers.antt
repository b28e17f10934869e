-- How a text is read on.
use Rattle.std.specs.Prelude.{◌≡◌, ℕ, List, ◌++◌, length, Option}
use Rattle.std.specs.Io.KnownBytes.{Consumes, IsAtEnd}

-- held bytes grew by n that the source gave, and it gave none only at its end
pub record ReadsMore (old new : Option (List ℕ)) (held now : List ℕ) (n : ℕ) : Type 0 where
  pub added : List ℕ
  pub whole : now ≡ held ++ added
  pub count : length added ≡ n
  pub consumed : Consumes old new added
  pub end : n ≡ 0 → IsAtEnd new
