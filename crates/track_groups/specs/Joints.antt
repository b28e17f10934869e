-- What groups say about the edges from wires (ours; the edges are those of `rr_edges`).
use Rattle.std.specs.Prelude.{◌≡◌, ℕ, ◌==◌, ◌&&◌, Bool, true, List, [], map, get_or, Some, All, Contains, ◌↔◌}
use Rattle.std.specs.List.{list_any}
use Rattle.std.specs.Int.{bit_at}
use Rattle.routing_problem.specs.node.Kind.TheVariants.{Ipin}
use Rattle.routing_problem.specs.Fabric.{Fabric}
use Rattle.routing_problem.specs.Nodes.{kind_of_node, is_wire_at}
use Rattle.routing_problem.specs.Edges.{edge_between}
use Rattle.routing_problem.specs.InputPins.{IsPinOf}
use Rattle.track_groups.specs.declared.group.Group.{Group}
use Rattle.track_groups.specs.declared.group.GroupTrack.{GroupTrack}
use Rattle.track_groups.specs.declared.group.Tap.{Tap}
use Rattle.track_groups.specs.Groups.{Grouping, on_track, IsOn, wire_on, IsGrouped}

-- groups with their neighbours, and the input pins that tap them
pub record Tables : Type 0 where
  pub wires : Grouping
  pub neighbours : List (List ℕ)
  pub taps : List (List Tap)

-- the neighbours of a group
abbrev pub neighbours_of : Tables → (group : ℕ) → List ℕ
neighbours_of t g = get_or t.neighbours g []

-- the pins that tap wires of a group
abbrev pub taps_of : Tables → (group : ℕ) → List Tap
taps_of t g = get_or t.taps g []

-- the wire of a track of a neighbour
abbrev pub wire_beside : List Group → (track neighbour : ℕ) → ℕ
wire_beside groups j h = wire_on groups (on_track h j)

-- the neighbour has the track
abbrev pub IsBeside : List Group → (track neighbour : ℕ) → Type 0
IsBeside groups j h = IsOn groups (on_track h j)

-- the pin taps the track
abbrev pub taps_track : (pin track : ℕ) → Tap → Bool
taps_track pin j t = t.pin == pin && bit_at t.tracks j == 1

-- one of these is the pin, and taps the track
unfoldable pub tap_on : List Tap → (pin track : ℕ) → Bool
tap_on ts pin j = list_any (taps_track pin j) ts

-- neighbours give the edges from a track of a group to wires
pub record TellsWires (f : Fabric) (groups : List Group) (hs : List ℕ) (p : GroupTrack) : Type 0 where
  -- each has the track
  pub beside : All (IsBeside groups p.track) hs
  -- edges lead to the same track of each, and to no other wire
  pub edges : (w : ℕ) → is_wire_at f w ≡ true
      → (edge_between f (wire_on groups p) w ≡ true) ↔ Contains (map (wire_beside groups p.track) hs) w

-- taps give the edges from a track of a group to input pins
abbrev pub TellsPins : Fabric → List Group → List Tap → GroupTrack → Type 0
TellsPins f groups ts p =
    (pin : ℕ) → kind_of_node f pin ≡ Some Ipin → edge_between f (wire_on groups p) pin ≡ tap_on ts pin p.track

-- a tap is of an input pin, and gives its sink
abbrev pub IsTap : Fabric → Tap → Type 0
IsTap f t = IsPinOf f t.sink t.pin

-- neighbours and taps of a group give the edges from its wires
pub record TellsEdges (f : Fabric) (groups : List Group) (g : ℕ) (hs : List ℕ) (ts : List Tap) : Type 0 where
  pub wires : (j : ℕ) → IsOn groups (on_track g j) → TellsWires f groups hs (on_track g j)
  pub pins : (j : ℕ) → IsOn groups (on_track g j) → TellsPins f groups ts (on_track g j)
  pub taps : All (IsTap f) ts

-- neighbours and taps of all groups do
abbrev pub AreJoined : Fabric → Tables → Type 0
AreJoined f t = (g : ℕ) → TellsEdges f t.wires.groups g (neighbours_of t g) (taps_of t g)

-- the tables are those of a device
pub record IsTabled (f : Fabric) (t : Tables) : Type 0 where
  pub grouped : IsGrouped f t.wires
  pub joined : AreJoined f t
