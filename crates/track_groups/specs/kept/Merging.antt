-- Tracks that are put together by their groups.
use Rattle.std.specs.Prelude.{◌≡◌, ℕ, ◌<◌, ◌==◌, ◌&&◌, ◌||◌, ◌⊎◌, Bool, true, List, [], get_or, Some}
use Rattle.std.specs.List.{list_any}
use Rattle.std.specs.Int.{bit_at}
use Rattle.routing_problem.specs.node.Kind.TheVariants.{Opin}
use Rattle.routing_problem.specs.Fabric.{Fabric}
use Rattle.routing_problem.specs.Nodes.{kind_of_node}
use Rattle.track_groups.specs.declared.group.Drive.{Drive}
use Rattle.track_groups.specs.declared.group.GroupTrack.{GroupTrack}
use Rattle.track_groups.specs.Groups.{Grouping, IsOn, wire_on, place_of, HasPlace}
use Rattle.track_groups.specs.Drives.{drive_track, AreDrivenBy}

-- one bit more is 1
pub record SetsBit (bit old new : ℕ) : Type 0 where
  pub each : (j : ℕ) → (bit_at new j == 1) ≡ (bit == j || bit_at old j == 1)

abbrev pub is_one : (p q : GroupTrack) → Bool
is_one p q = p.group == q.group && p.track == q.track

-- one track more is driven
pub record DrivesMore (q : GroupTrack) (old new : List Drive) : Type 0 where
  pub each : (p : GroupTrack) → drive_track new p ≡ (is_one q p || drive_track old p)

-- the track of a node is driven too, where it is a wire
abbrev pub PutsNode : Grouping → ℕ → (old new : List Drive) → Type 0
PutsNode t v old new = (HasPlace t v × DrivesMore (place_of t v) old new) ⊎ ((HasPlace t v → ⊥) × (new ≡ old))

abbrev pub is_wire_of : Grouping → GroupTrack → ℕ → Bool
is_wire_of t p v = v == wire_on t.groups p

-- these are the tracks of the wires among the nodes
pub record AreMerged (t : Grouping) (ids : List ℕ) (ds : List Drive) : Type 0 where
  pub on : (p : GroupTrack) → drive_track ds p ≡ true → IsOn t.groups p
  pub told : (p : GroupTrack) → IsOn t.groups p → drive_track ds p ≡ list_any (is_wire_of t p) ids

-- before a number, a node that is no output pin drives nothing
abbrev pub OnlyPinsDriveBefore : ℕ → Fabric → List (List Drive) → Type 0
OnlyPinsDriveBefore id f rows = (other : ℕ) → other < id → (kind_of_node f other ≡ Some Opin → ⊥) → get_or rows other [] ≡ []

-- what the pins before one drive
abbrev pub AreDrivesBefore : ℕ → Fabric → Grouping → List (List Drive) → Type 0
AreDrivesBefore id f t rows = (pin : ℕ) → pin < id → kind_of_node f pin ≡ Some Opin → AreDrivenBy f t pin (get_or rows pin [])
