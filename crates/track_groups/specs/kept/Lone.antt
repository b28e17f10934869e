-- Groups of one wire each.
use Rattle.std.specs.Prelude.{◌≡◌, ℕ, ◌+◌, map, unwrap_or}
use Rattle.routing_problem.specs.node.Kind.{Kind}
use Rattle.routing_problem.specs.node.Span.{Span}
use Rattle.routing_problem.specs.Fabric.{Fabric, numbers_below}
use Rattle.routing_problem.specs.Nodes.{node_at, wire_in}
use Rattle.track_groups.specs.declared.group.Group.{Group}
use Rattle.track_groups.specs.declared.group.GroupTrack.{GroupTrack}
use Rattle.track_groups.specs.Groups.{Grouping, no_group, on_track, IsOn}

abbrev pub no_wire : Kind × Span × ℕ
no_wire = (no_group.kind, no_group.span, no_group.reach)

abbrev pub lone_by : (wire : ℕ) → Kind × Span × ℕ → Group
lone_by w told = record { kind = told.0; span = told.1; reach = told.2; base = w; stride = 1; tracks = 1 }

-- one wire
abbrev pub lone_wire : Fabric → ℕ → Group
lone_wire f w = lone_by w (unwrap_or (wire_in f (node_at f w)) no_wire)

-- group i, of the i-th wire
abbrev pub lone_at : Fabric → (first_wire i : ℕ) → Group
lone_at f first i = lone_wire f (first + i)

abbrev pub first_track : ℕ → GroupTrack
first_track i = on_track i 0

-- n wires, each in a group of its own
abbrev pub lone_grouping : Fabric → (first_wire n : ℕ) → Grouping
lone_grouping f first n =
    record { first_wire = first; groups = map (lone_at f first) (numbers_below n); places = map first_track (numbers_below n) }

-- no group has a second track
abbrev pub AreLone : Grouping → Type 0
AreLone t = (p : GroupTrack) → IsOn t.groups p → p.track ≡ 0
