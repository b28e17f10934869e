-- What `graph --types` adds to the lines of a listing: the types of wires, and the switches that
-- drive them (ours; VPR and T-VPack manual 4.30, "segment": wire_switch, opin_switch).
use Rattle.std.specs.Prelude.{ℕ, Bool, if◌then◌else◌, List, [], ◌++◌, codes, decimal, Option, None, Some, slice_get}
use Rattle.arch_file.specs.declared.entries.Segment.{Segment}
use Rattle.rr_graph.specs.node.Node.{Node}
use Rattle.rr_graph.specs.Fabric.{Fabric}
use Rattle.rr_graph.specs.Nodes.{is_wire, is_wire_at, node_at}
use Rattle.rr_graph.specs.Wires.{track_type}

-- a further text, if it is asked for
abbrev pub if_asked : Bool → List ℕ → List ℕ
if_asked is_asked text = if is_asked then text else []

-- as ` type 0`
abbrev pub type_number : ℕ → List ℕ
type_number s = codes " type " ++ decimal s

-- the type of a wire, counted from 0 in the order of the architecture; nothing for another node
abbrev pub type_text : Fabric → Node → List ℕ
type_text f n = if is_wire n.kind then type_number (track_type f n.number) else []

-- the switch by which a wire drives a wire of this type, or else by which an output pin does
abbrev pub switch_of : (is_from_wire : Bool) → Segment → ℕ
switch_of is_from_wire s = if is_from_wire then s.wire_switch else s.opin_switch

-- as ` switch 0`
abbrev pub switch_number : ℕ → List ℕ
switch_number n = codes " switch " ++ decimal n

abbrev pub switch_by : (is_from_wire : Bool) → Option Segment → List ℕ
switch_by is_from_wire None = []
switch_by is_from_wire (Some s) = switch_number (switch_of is_from_wire s)

-- the switch that drives a node, if it is a wire
abbrev pub switch_into : (is_from_wire : Bool) → Fabric → Option Node → List ℕ
switch_into is_from_wire f None = []
switch_into is_from_wire f (Some n) =
    if is_wire n.kind then switch_by is_from_wire (slice_get f.architecture.segments (track_type f n.number)) else []

-- the switch of an edge that leads into a wire; nothing for another edge
abbrev pub switch_text : Fabric → (a b : ℕ) → List ℕ
switch_text f a b = switch_into (is_wire_at f a) f (node_at f b)
