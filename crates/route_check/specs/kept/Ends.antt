-- Where the pairs of a net end, sorted by node.
use Rattle.std.specs.Prelude.{◌≡◌, ℕ, ◌+◌, ◌-◌, ◌<◌, ◌≤◌, ◌==◌, Bool, false, List, length, map, get_or, Option, Some, None}
use Rattle.std.specs.List.{list_any}
use Rattle.std.specs.List.Sorted.{IsPermutation, IsNonDecreasingBy}
use Rattle.routing_problem.specs.Fabric.{numbers_below}
use Rattle.route_tree.specs.Paths.{Pair, ends_of}
use Rattle.route_tree.specs.Legality.{is_among}
use Rattle.route_check.specs.declared.listing.End.{End}

abbrev pub no_end : End
no_end = record { node = 0; row = 0 }

-- where pair k ends
abbrev pub end_in : List Pair → ℕ → ℕ
end_in pairs k = (get_or pairs k (0, 0)).1

-- where pair k begins
abbrev pub begin_in : List Pair → ℕ → ℕ
begin_in pairs k = (get_or pairs k (0, 0)).0

-- the end of pair k
abbrev pub end_at : List Pair → ℕ → End
end_at pairs k = record { node = end_in pairs k; row = k }

-- the ends of the pairs, by node
pub record AreEnds (pairs : List Pair) (ends : List End) : Type 0 where
  pub all : IsPermutation (map (end_at pairs) (numbers_below (length pairs))) ends
  pub ascend : IsNonDecreasingBy (λ e. e.node) ends

-- a pair that ends in the node, or none if there is none
abbrev pub IsRowOf : List Pair → ℕ → Option ℕ → Type 0
IsRowOf pairs a (Some k) = (k < length pairs) × (end_in pairs k ≡ a)
IsRowOf pairs a None = is_among (ends_of pairs) a ≡ false

-- the end at place k among ends, and the next one, are one node
abbrev pub is_repeated_at : List End → ℕ → Bool
is_repeated_at ends k = (get_or ends k no_end).node == (get_or ends (k + 1) no_end).node

-- two adjacent ends are one node
abbrev pub is_repeated : List End → Bool
is_repeated ends = list_any (is_repeated_at ends) (numbers_below (length ends - 1))

-- the ends before the place are smaller nodes, and those from there on are none
pub record IsPlaceOf (ends : List End) (a place : ℕ) : Type 0 where
  pub before : (k : ℕ) → k < place → (get_or ends k no_end).node < a
  pub behind : (k : ℕ) → place ≤ k → k < length ends → a ≤ (get_or ends k no_end).node
