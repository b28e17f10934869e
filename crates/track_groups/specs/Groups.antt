-- Groups of wires: which wires a device has, by groups and tracks (ours; the device is that of
-- `routing_problem`).
use Rattle.std.specs.Prelude.{◌≡◌, ℕ, ◌+◌, ◌-◌, ◌*◌, ◌<◌, ◌≤◌, true, List, length, get_or, Option, Some}
use Rattle.routing_problem.specs.node.Kind.{Kind}
use Rattle.routing_problem.specs.node.Kind.TheVariants.{Chanx}
use Rattle.routing_problem.specs.node.Span.{Span}
use Rattle.routing_problem.specs.Fabric.{Fabric}
use Rattle.routing_problem.specs.Nodes.{node_at, is_wire_at, wire_in}
use Rattle.track_groups.specs.declared.group.Group.{Group}
use Rattle.track_groups.specs.declared.group.GroupTrack.{GroupTrack}

-- the groups, and for each wire, from the first one on, the track of a group that it is
pub record Grouping : Type 0 where
  pub first_wire : ℕ
  pub groups : List Group
  pub places : List GroupTrack

-- a group without tracks
abbrev pub no_group : Group
no_group =
    record { kind = Chanx; span = record { x1 = 0; y1 = 0; x2 = 0; y2 = 0 }; reach = 0; base = 0; stride = 0; tracks = 0 }

-- group g; where there is none, a group without tracks
unfoldable pub group_at : List Group → ℕ → Group
group_at groups g = get_or groups g no_group

abbrev pub on_track : (group track : ℕ) → GroupTrack
on_track g j = record { group = g; track = j }

-- the group has this track
abbrev pub IsOn : List Group → GroupTrack → Type 0
IsOn groups p = p.track < (group_at groups p.group).tracks

-- the node of a track of a group
abbrev pub node_on : Group → ℕ → ℕ
node_on g j = g.base + j * g.stride

-- the wire of a track of a group
abbrev pub wire_on : List Group → GroupTrack → ℕ
wire_on groups p = node_on (group_at groups p.group) p.track

-- the group and track of a wire
unfoldable pub place_of : Grouping → ℕ → GroupTrack
place_of t w = get_or t.places (w - t.first_wire) (on_track 0 0)

abbrev pub wire_told : Group → Option (Kind × Span × ℕ)
wire_told g = Some (g.kind, g.span, g.reach)

-- a track of a group
pub record IsTrack (f : Fabric) (t : Grouping) (p : GroupTrack) : Type 0 where
  -- its wire is in this track of this group, and in no other
  pub place : place_of t (wire_on t.groups p) ≡ p
  -- it has the kind, the span and the reach of the group
  pub wire : wire_in f (node_at f (wire_on t.groups p)) ≡ wire_told (group_at t.groups p.group)

-- a wire is listed: it is a track of a group
pub record HasPlace (t : Grouping) (w : ℕ) : Type 0 where
  pub from : t.first_wire ≤ w
  pub below : w < t.first_wire + length t.places
  pub on : IsOn t.groups (place_of t w)
  pub is : wire_on t.groups (place_of t w) ≡ w

-- these are the groups of a device: each wire is in one track of one group
pub record IsGrouped (f : Fabric) (t : Grouping) : Type 0 where
  pub wires : (w : ℕ) → is_wire_at f w ≡ true → HasPlace t w
  pub tracks : (p : GroupTrack) → IsOn t.groups p → IsTrack f t p
