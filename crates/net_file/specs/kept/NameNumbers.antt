-- How names are kept.
use Rattle.std.specs.Prelude.{◌≡◌, ℕ, List, map}
use Rattle.std.specs.BTreeMap.{BTreeMap, get_by}
use Rattle.std.specs.Ordering.{nat_cmp}
use Rattle.std.specs.Cmp.Lexicographic.{slice_cmp}
use Rattle.net_file.specs.Names.{number_among}
use denote.Ref.{Bor}

-- the bytes of the names
abbrev pub names_in : List (Bor (List ℕ)) → List (List ℕ)
names_in refs = map (λ r. r.now) refs

-- the map finds each name's number, and no other name
abbrev pub AreNumbered : List (Bor (List ℕ)) → BTreeMap (Bor (List ℕ)) ℕ → Type 0
AreNumbered refs numbers = (name : List ℕ) → get_by (λ k. slice_cmp nat_cmp name k.now) numbers ≡ number_among (names_in refs) name
