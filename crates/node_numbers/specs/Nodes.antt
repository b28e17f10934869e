-- The nodes of a device in their order (Betz, Rose and Marquardt 1999, "routing-resource graph";
-- the order is this project's).
use Rattle.std.specs.Prelude.{ℕ, ◌+◌, ◌==◌, Bool, true, false, ◌&&◌, nat_le, if◌then◌else◌, List, [], ◌∷◌, length, map, slice_get, Option, Some, None}
use Rattle.std.specs.List.{flat_map, position}
use Rattle.std.specs.Option.{option_map, option_map_or}
use Rattle.arch_file.specs.Architecture.{class_size}
use Rattle.arch_file.specs.declared.entries.Direction.TheVariants.{Input, Output}
use Rattle.channel_tables.specs.declared.node.Mode.{Mode}
use Rattle.channel_tables.specs.declared.node.Mode.TheVariants.{Detailed, Global}
use Rattle.channel_tables.specs.declared.node.Kind.{Kind}
use Rattle.channel_tables.specs.declared.node.Kind.TheVariants.{Source, Sink, Opin, Ipin, Chanx, Chany}
use Rattle.channel_tables.specs.declared.node.Node.{Node}
use Rattle.channel_tables.specs.declared.node.Label.{Label}
use Rattle.channel_tables.specs.declared.node.Label.TheVariants.{Class, Pin, Pad, Track}
use Rattle.channel_tables.specs.declared.node.Span.{Span}
use Rattle.channel_tables.specs.Fabric.{Fabric, numbers_below, is_between, is_block, is_pad}
use Rattle.channel_tables.specs.Wires.{last_of, reach_of, beginnings_at}
use Rattle.channel_tables.specs.Pins.{classes_of, pins_of}

-- at a block the numbers given, at a perimeter place the positions of its pads
abbrev pub terminals_at : Fabric → (x y : ℕ) → List ℕ → List ℕ
terminals_at f x y of_block =
    if is_block f x y then of_block else (if is_pad f x y then numbers_below f.architecture.io_rat else [])

-- the numbers of the nodes of a kind at a place, ascending
unfoldable pub numbers_at : Fabric → Kind → (x y : ℕ) → List ℕ
numbers_at f Source x y = terminals_at f x y (classes_of f.architecture Output)
numbers_at f Sink x y = terminals_at f x y (classes_of f.architecture Input)
numbers_at f Opin x y = terminals_at f x y (pins_of f.architecture Output)
numbers_at f Ipin x y = terminals_at f x y (pins_of f.architecture Input)
numbers_at f Chanx x y = if is_between 1 f.nx x && nat_le y f.ny then beginnings_at f f.nx x else []
numbers_at f Chany x y = if nat_le x f.nx && is_between 1 f.ny y then beginnings_at f f.ny y else []

abbrev pub node_of : Kind → (x y number : ℕ) → Node
node_of k x y number = record { kind = k; x = x; y = y; number = number }

abbrev pub nodes_at : Fabric → Kind → (x y : ℕ) → List Node
nodes_at f k x y = map (node_of k x y) (numbers_at f k x y)

abbrev pub nodes_of_column : Fabric → Kind → ℕ → List Node
nodes_of_column f k x = flat_map (nodes_at f k x) (numbers_below (f.ny + 2))

abbrev pub nodes_of_kind : Fabric → Kind → List Node
nodes_of_kind f k = flat_map (nodes_of_column f k) (numbers_below (f.nx + 2))

abbrev pub kinds : List Kind
kinds = Source ∷ Sink ∷ Opin ∷ Ipin ∷ Chanx ∷ Chany ∷ []

-- the nodes of a device: by kind, then x, then y, then number
unfoldable pub nodes_of : Fabric → List Node
nodes_of f = flat_map (nodes_of_kind f) kinds

abbrev pub node_count_of : Fabric → ℕ
node_count_of f = length (nodes_of f)

-- the node of a number
abbrev pub node_at : Fabric → ℕ → Option Node
node_at f i = slice_get (nodes_of f) i

-- the kind of node i; none where there is no node
abbrev pub kind_of_node : Fabric → ℕ → Option Kind
kind_of_node f i = option_map (λ n. n.kind) (node_at f i)

-- a node of the kind is a wire
abbrev pub is_wire : Kind → Bool
is_wire Source = false
is_wire Sink = false
is_wire Opin = false
is_wire Ipin = false
is_wire Chanx = true
is_wire Chany = true

-- node i is a wire
abbrev pub is_wire_at : Fabric → ℕ → Bool
is_wire_at f i = option_map_or is_wire (kind_of_node f i) false

-- a kind's place among the kinds
abbrev pub rank_of_kind : Kind → ℕ
rank_of_kind Source = 0
rank_of_kind Sink = 1
rank_of_kind Opin = 2
rank_of_kind Ipin = 3
rank_of_kind Chanx = 4
rank_of_kind Chany = 5

-- the two are the same node
unfoldable pub is_same : Node → Node → Bool
is_same a b = (rank_of_kind a.kind == rank_of_kind b.kind && a.x == b.x) && (a.y == b.y && a.number == b.number)

-- the number of a node: how many nodes come before it; none if it is no node
abbrev pub number_of : Fabric → Node → Option ℕ
number_of f n = position (λ m. is_same m n) (nodes_of f)

abbrev pub label_by : Kind → Bool → Label
label_by Source block = if block then Class else Pad
label_by Sink block = if block then Class else Pad
label_by Opin block = if block then Pin else Pad
label_by Ipin block = if block then Pin else Pad
label_by Chanx block = Track
label_by Chany block = Track

-- what a node's number counts
abbrev pub label_of : Fabric → Node → Label
label_of f n = label_by n.kind (is_block f n.x n.y)

-- the pins of a block's class; at a pad one
abbrev pub terminal_capacity : Fabric → Node → ℕ
terminal_capacity f n = if is_block f n.x n.y then class_size f.architecture n.number else 1

-- a track is used by one net; the one node of a global channel's place represents all its tracks
abbrev pub wire_capacity : Mode → ℕ → ℕ
wire_capacity Detailed width = 1
wire_capacity Global width = width

abbrev pub capacity_by : Kind → Fabric → Node → ℕ
capacity_by Source f n = terminal_capacity f n
capacity_by Sink f n = terminal_capacity f n
capacity_by Opin f n = 1
capacity_by Ipin f n = 1
capacity_by Chanx f n = wire_capacity f.mode f.width
capacity_by Chany f n = wire_capacity f.mode f.width

-- how many nets may use a node: the pins of a block's class; in a global device the width of a
-- channel; else 1
abbrev pub capacity_of : Fabric → Node → ℕ
capacity_of f n = capacity_by n.kind f n

abbrev pub span_by : Kind → Fabric → Node → Span
span_by Chanx f n = record { x1 = n.x; y1 = n.y; x2 = last_of f f.nx n.number n.x; y2 = n.y }
span_by Chany f n = record { x1 = n.x; y1 = n.y; x2 = n.x; y2 = last_of f f.ny n.number n.y }
span_by _ f n = record { x1 = n.x; y1 = n.y; x2 = n.x; y2 = n.y }

-- the first and the last place of a node
abbrev pub span_of : Fabric → Node → Span
span_of f n = span_by n.kind f n

-- a wire's kind, its first and last place, and how many places the wires of its track pass at most;
-- none where the node is no wire
unfoldable pub wire_in : Fabric → Option Node → Option (Kind × Span × ℕ)
wire_in f None = None
wire_in f (Some n) = if is_wire n.kind then Some (n.kind, span_of f n, reach_of f n.number) else None

abbrev pub is_source_kind : Kind → Bool
is_source_kind Source = true
is_source_kind _ = false

abbrev pub is_sink_kind : Kind → Bool
is_sink_kind Sink = true
is_sink_kind _ = false

abbrev pub any_node : (Kind → Bool) → Option Node → Bool
any_node test (Some n) = test n.kind
any_node test None = false

-- the node of this number is there, and is a source
unfoldable pub is_source : Fabric → ℕ → Bool
is_source f id = any_node is_source_kind (node_at f id)

-- the node of this number is there, and is a sink
unfoldable pub is_sink : Fabric → ℕ → Bool
is_sink f id = any_node is_sink_kind (node_at f id)
