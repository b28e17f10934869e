-- The pins of blocks and pads by their numbers.
use Rattle.std.specs.Prelude.{ℕ, Bool, true, ◌&&◌, not, if◌then◌else◌, length, slice_get}
use Rattle.std.specs.Option.{option_map}
use Rattle.arch_file.specs.declared.entries.Direction.{Direction}
use Rattle.arch_file.specs.declared.entries.Direction.TheVariants.{Input, Output}
use Rattle.rr_graph.specs.node.Kind.{Kind}
use Rattle.rr_graph.specs.node.Kind.TheVariants.{Opin}
use Rattle.rr_graph.specs.node.Node.{Node}
use Rattle.rr_graph.specs.Fabric.{Fabric, is_block, is_pad}
use Rattle.rr_graph.specs.Pins.{belongs, has_direction}
use Rattle.rr_graph.specs.Nodes.{node_of}
use Rattle.width_bound.specs.Cuts.{Cut, is_given_up}

-- how many pins the block at (x, y) has, or how many pads are there
abbrev pub pin_count : Fabric → (x y : ℕ) → ℕ
pin_count f x y =
    if is_block f x y then length f.architecture.pins
    else (if is_pad f x y then f.architecture.io_rat else 0)

abbrev pub direction_for : Kind → Direction
direction_for Opin = Output
direction_for _ = Input

-- a pin of this number at (x, y) is a node of the kind
abbrev pub has_pin : Fabric → Kind → (x y number : ℕ) → Bool
has_pin f kind x y number =
    if is_block f x y
    then has_direction (direction_for kind) (option_map (λ q. q.direction) (slice_get f.architecture.pins number))
    else true

-- it is of the terminal, and the cut doesn't give it up
abbrev pub is_left : Fabric → Cut → Kind → (terminal : Node) → (number : ℕ) → Bool
is_left f cut kind terminal number =
    has_pin f kind terminal.x terminal.y number
    && (belongs f (node_of kind terminal.x terminal.y number) terminal && not (is_given_up cut (node_of kind terminal.x terminal.y number)))
