-- The first places of nodes in a list.
use Rattle.std.specs.Prelude.{◌≡◌, ℕ, ◌==◌, Bool, false, nat_lt, if◌then◌else◌, List, Option, None, Some}
use Rattle.std.specs.BTreeMap.{get}
use Rattle.std.specs.List.{position_from}
use Rattle.std.specs.Option.{option_or}
use Rattle.std.specs.Ordering.{nat_cmp}
use Rattle.route_tree.specs.Paths.{Pair, ends_of}
use Rattle.route_explain.specs.declared.index.NetIndex.{NetIndex}
use Rattle.route_explain.specs.declared.places.Places.{Places}
use Rattle.route_explain.specs.Steps.{begins_of}

-- the first place of a node
abbrev pub first_place : List ℕ → ℕ → Option ℕ
first_place nodes a = position_from (λ b. b == a) 0 nodes

-- the same, by a map
abbrev pub place_in : Places → ℕ → Option ℕ
place_in places a = get nat_cmp places.first a

-- the first place of a node, with one more node at a place
abbrev pub with_place : (places : Option ℕ) → (node place : ℕ) → ℕ → Option ℕ
with_place places node place a = option_or places (if node == a then Some place else None)

-- each node has its first place in the list
abbrev pub ArePlaces : List ℕ → Places → Type 0
ArePlaces nodes places = (a : ℕ) → place_in places a ≡ first_place nodes a

-- one more node is at a place
abbrev pub HasMore : (old new : Places) → (node place : ℕ) → Type 0
HasMore old new node place = (a : ℕ) → place_in new a ≡ with_place (place_in old a) node place a

-- there is a place, and it is before k
abbrev pub is_before : Option ℕ → ℕ → Bool
is_before None k = false
is_before (Some i) k = nat_lt i k

-- the sinks of a net, and the steps of its list
pub record NetSteps : Type 0 where
  pub sinks : List ℕ
  pub pairs : List Pair

-- an index of a list for a net with these sinks
pub record IsIndex (sinks : List ℕ) (pairs : List Pair) (x : NetIndex) : Type 0 where
  pub begins : ArePlaces (begins_of pairs) x.begins
  pub ends : ArePlaces (ends_of pairs) x.ends
  pub own : ArePlaces sinks x.sinks
