-- The places of the elements of a list that pass a test.
use Rattle.std.specs.Prelude.{ℕ, ◌+◌, Bool, cond, List, [], ◌∷◌}

-- the numbers of the elements that pass, where the first element has number i
abbrev pub picks : {X : Type 0} → (X → Bool) → ℕ → List X → List ℕ
picks test i [] = []
picks test i (x ∷ xs) = cond (test x) (i ∷ picks test (i + 1) xs) (picks test (i + 1) xs)
