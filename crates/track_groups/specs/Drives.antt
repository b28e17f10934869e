-- The tracks that output pins drive (ours; the edges are those of `rr_edges`).
use Rattle.std.specs.Prelude.{◌≡◌, ℕ, ◌==◌, ◌&&◌, Bool, true, List, [], get_or, Some}
use Rattle.std.specs.List.{list_any}
use Rattle.std.specs.Int.{bit_at}
use Rattle.routing_problem.specs.node.Kind.TheVariants.{Opin}
use Rattle.routing_problem.specs.Fabric.{Fabric}
use Rattle.routing_problem.specs.Nodes.{kind_of_node}
use Rattle.routing_problem.specs.Edges.{edge_between}
use Rattle.track_groups.specs.declared.group.Drive.{Drive}
use Rattle.track_groups.specs.declared.group.GroupTrack.{GroupTrack}
use Rattle.track_groups.specs.Groups.{Grouping, IsOn, wire_on}

-- the track is of the group, and its bit is 1
abbrev pub drives : GroupTrack → Drive → Bool
drives p d = d.group == p.group && bit_at d.tracks p.track == 1

-- one of these drives the track
unfoldable pub drive_track : List Drive → GroupTrack → Bool
drive_track ds p = list_any (drives p) ds

-- these are the tracks that a pin drives
pub record AreDrivenBy (f : Fabric) (t : Grouping) (pin : ℕ) (ds : List Drive) : Type 0 where
  -- each is a track of a group
  pub on : (p : GroupTrack) → drive_track ds p ≡ true → IsOn t.groups p
  -- edges lead to the wires of these and of no other
  pub edges : (p : GroupTrack) → IsOn t.groups p → edge_between f pin (wire_on t.groups p) ≡ drive_track ds p

-- a node that is no output pin drives nothing
abbrev pub OnlyPinsDrive : Fabric → List (List Drive) → Type 0
OnlyPinsDrive f rows = (id : ℕ) → (kind_of_node f id ≡ Some Opin → ⊥) → get_or rows id [] ≡ []

-- what each output pin drives is at its number
abbrev pub AreDrives : Fabric → Grouping → List (List Drive) → Type 0
AreDrives f t rows = (pin : ℕ) → kind_of_node f pin ≡ Some Opin → AreDrivenBy f t pin (get_or rows pin [])
