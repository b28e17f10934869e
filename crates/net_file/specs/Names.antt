-- Names in order: a name is the list of its bytes, and two names are the same only where all their
-- bytes are.
use Rattle.std.specs.Prelude.{◌≡◌, ℕ, ◌<◌, Bool, if◌then◌else◌, List, [], ◌∷◌, ◌++◌, length, Option, Some, fold, slice_index_or}
use Rattle.std.specs.Str.{bytes_eq}
use Rattle.std.specs.List.{list_any, position_from}

-- two names are the same
abbrev pub same_name : List ℕ → List ℕ → Bool
same_name a b = bytes_eq a b

-- the name is among the names
unfoldable pub is_among : List (List ℕ) → List ℕ → Bool
is_among names name = list_any (same_name name) names

-- the place of a name among the names, counted from 0: its number
unfoldable pub number_among : List (List ℕ) → List ℕ → Option ℕ
number_among names name = position_from (same_name name) 0 names

-- the names and then this one, if it is new
unfoldable pub with_name : List (List ℕ) → List ℕ → List (List ℕ)
with_name names name = if is_among names name then names else names ++ name ∷ []

-- the names so far and then the new ones of these, each once
abbrev pub with_names : List (List ℕ) → List (List ℕ) → List (List ℕ)
with_names names new = fold with_name names new

-- each name once, in the order of first appearance
abbrev pub distinct : List (List ℕ) → List (List ℕ)
distinct names = with_names [] names

-- no two of the names are the same: each is found at its own place
abbrev pub AreDifferent : List (List ℕ) → Type 0
AreDifferent names = (n : ℕ) → n < length names → number_among names (slice_index_or names n []) ≡ Some n
