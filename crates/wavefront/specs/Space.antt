-- What a search of one net may enter, and at what cost (McMurchie and Ebeling 1995).
use Rattle.std.specs.Prelude.{◌≡◌, ℕ, true, Contains}
use Rattle.std.specs.Option.{option_map_or}
use Rattle.routing_problem.specs.node.Kind.{Kind}
use Rattle.routing_problem.specs.node.Kind.TheVariants.{Source, Sink, Opin, Ipin, Chanx, Chany}
use Rattle.routing_problem.specs.Fabric.{Fabric}
use Rattle.routing_problem.specs.Nodes.{node_at, kind_of_node}
use Rattle.routing_problem.specs.Edges.{edge_between}
use Rattle.routing_problem.specs.Problems.{Net}
use Rattle.route_tree.specs.Usage.{room_of}
use Rattle.node_cost.specs.Costs.{cost_of}
use Rattle.node_cost.specs.Views.{others_in, history_in, NetView}
use Rattle.wavefront.specs.declared.base_costs.TheConstants.{WIRE_BASE, INPUT_PIN_BASE}
use Rattle.wavefront.specs.Boxes.{is_in_box}

-- a device, a net of it, what the net sees of the others, the present-congestion factor, and by how
-- much the net's box is widened
pub record Space : Type 0 where
  pub device : Fabric
  pub net : Net
  pub view : NetView
  pub present : ℕ
  pub bb : ℕ

-- the base cost of a wire, a source and an output pin (this project's profile)
abbrev pub wire_base : ℕ
wire_base = WIRE_BASE

-- the base cost of an input pin (this project's profile)
abbrev pub input_pin_base : ℕ
input_pin_base = INPUT_PIN_BASE

-- the base cost of a node of a kind
abbrev pub base_cost : Kind → ℕ
base_cost Source = wire_base
base_cost Sink = 0
base_cost Opin = wire_base
base_cost Ipin = input_pin_base
base_cost Chanx = wire_base
base_cost Chany = wire_base

-- what it costs to enter a node
unfoldable pub entry_cost : Space → ℕ → ℕ
entry_cost s v = cost_of (option_map_or base_cost (kind_of_node s.device v) 0) (history_in s.view v) (room_of s.device (node_at s.device v)) (others_in s.view v) s.present

-- an edge leads from a to b
abbrev pub HasEdge : Space → ℕ → ℕ → Type 0
HasEdge s a b = edge_between s.device a b ≡ true

-- the node is in the net's box
abbrev pub IsInside : Space → ℕ → Type 0
IsInside s v = is_in_box s.device s.bb s.net v ≡ true

-- the node is one of the net's sinks
abbrev pub IsWanted : Space → ℕ → Type 0
IsWanted s v = Contains s.net.sinks v
