-- Neighbours and pins of a group, found by the edges from its wires.
use Rattle.std.specs.Prelude.{◌≡◌, ℕ, ◌+◌, ◌<◌, ◌==◌, ◌&&◌, ◌||◌, ◌⊎◌, Bool, nat_lt, List, [], ◌∷◌, ◌++◌, length, get_or, Some, All}
use Rattle.std.specs.List.{list_any}
use Rattle.routing_problem.specs.node.Kind.TheVariants.{Ipin}
use Rattle.routing_problem.specs.Fabric.{Fabric}
use Rattle.routing_problem.specs.Nodes.{kind_of_node}
use Rattle.routing_problem.specs.Edges.{edge_between, successors_of}
use Rattle.track_groups.specs.declared.group.GroupTrack.{GroupTrack}
use Rattle.track_groups.specs.declared.group.Tap.{Tap}
use Rattle.track_groups.specs.Groups.{Grouping, on_track, IsOn, wire_on, place_of, HasPlace}
use Rattle.track_groups.specs.Joints.{wire_beside, IsBeside, tap_on, IsTap, TellsEdges}

-- some group has a second track
abbrev pub HasSecondTrack : Grouping → Type 0
HasSecondTrack t = (p : GroupTrack) × IsOn t.groups p × (0 < p.track)

-- ---- wires
abbrev pub is_beside_wire : Grouping → (track wire neighbour : ℕ) → Bool
is_beside_wire t j w h = wire_beside t.groups j h == w

-- the wires among these nodes are the track of the neighbours
pub record Matches (t : Grouping) (ids hs : List ℕ) (j : ℕ) : Type 0 where
  pub beside : All (IsBeside t.groups j) hs
  pub same : (w : ℕ) → HasPlace t w → list_any (λ u. u == w) ids ≡ list_any (is_beside_wire t j w) hs

-- the group of a node is one more neighbour, where it is a wire
abbrev pub AddsNeighbour : Grouping → ℕ → (old new : List ℕ) → Type 0
AddsNeighbour t v old new =
    (HasPlace t v × ((place_of t v).track ≡ 0) × (new ≡ old ++ (place_of t v).group ∷ [])) ⊎ ((HasPlace t v → ⊥) × (new ≡ old))

-- a node is the track of the next neighbour, where it is a wire
abbrev pub StepsTo : Grouping → ℕ → (hs : List ℕ) → (track old new : ℕ) → Type 0
StepsTo t v hs j old new =
    ((old < length hs) × IsBeside t.groups j (get_or hs old 0) × (wire_beside t.groups j (get_or hs old 0) ≡ v) × (new ≡ old + 1)) ⊎ ((HasPlace t v → ⊥) × (new ≡ old))

-- ---- pins
-- one pin more taps one track
pub record TapsMore (pin track : ℕ) (old new : List Tap) : Type 0 where
  pub each : (v j : ℕ) → tap_on new v j ≡ ((pin == v && track == j) || tap_on old v j)

abbrev pub AddsTap : Fabric → (pin track : ℕ) → (old new : List Tap) → Type 0
AddsTap f pin track old new = TapsMore pin track old new ⊎ ((kind_of_node f pin ≡ Some Ipin → ⊥) × (new ≡ old))

-- the input pins among these nodes tap the track too
pub record AddTaps (f : Fabric) (ids : List ℕ) (track : ℕ) (old new : List Tap) : Type 0 where
  pub each : (v j : ℕ) → kind_of_node f v ≡ Some Ipin → tap_on new v j ≡ ((track == j && list_any (λ u. u == v) ids) || tap_on old v j)

-- ---- the tracks of a group before one
pub record AreJoinedBefore (f : Fabric) (t : Grouping) (g track : ℕ) (hs : List ℕ) (ts : List Tap) : Type 0 where
  pub wires : (j : ℕ) → j < track → Matches t (successors_of f (wire_on t.groups (on_track g j))) hs j
  pub pins : (v j : ℕ) → kind_of_node f v ≡ Some Ipin → tap_on ts v j ≡ (nat_lt j track && edge_between f (wire_on t.groups (on_track g j)) v)
  pub taps : All (IsTap f) ts

-- ---- groups before one
abbrev pub AreTold : ℕ → Fabric → Grouping → List (List ℕ) → List (List Tap) → Type 0
AreTold n f t neighbours taps = (g : ℕ) → g < n → TellsEdges f t.groups g (get_or neighbours g []) (get_or taps g [])
