-- The successors of a node by its kind and its place.
use Rattle.std.specs.Prelude.{◌≡◌, ℕ, ◌≤◌, ◌<◌, true, List, []}
use Rattle.channel_tables.specs.declared.node.Kind.{Kind}
use Rattle.channel_tables.specs.declared.node.Kind.TheVariants.{Source, Sink, Opin, Ipin, Chanx, Chany}
use Rattle.channel_tables.specs.declared.node.Node.{Node}
use Rattle.channel_tables.specs.Fabric.{Fabric}
use Rattle.channel_tables.specs.Wires.{tracks_in, begins}
use Rattle.node_numbers.specs.Numbering.{is_terminal}
use Rattle.rr_edges.specs.kept.PinSuccessors.{source_successors, ipin_successors, opin_successors}
use Rattle.rr_edges.specs.kept.Fanouts.{row_wire_list, column_wire_list}
use Rattle.rr_edges.specs.kept.Terminals.{IsTerminal}

abbrev pub successors_by : Kind → Fabric → Node → List ℕ
successors_by Source f a = source_successors f a
successors_by Sink f a = []
successors_by Opin f a = opin_successors f a
successors_by Ipin f a = ipin_successors f a
successors_by Chanx f a = row_wire_list f a.x a.y a.number
successors_by Chany f a = column_wire_list f a.x a.y a.number

abbrev pub node_successors : Fabric → Node → List ℕ
node_successors f a = successors_by a.kind f a

-- a wire of a track begins at a place of a channel of n places
pub record IsWire (f : Fabric) (n track place : ℕ) : Type 0 where
  pub first : 1 ≤ place
  pub last : place ≤ n
  pub here : begins f n track place ≡ true
  pub within : track < tracks_in f.mode f.width

-- the node is at a place of its kind
pub record IsAtPlace (f : Fabric) (a : Node) : Type 0 where
  pub terminal : is_terminal a.kind ≡ true → IsTerminal f a.x a.y a.number
  pub row_wire : a.kind ≡ Chanx → IsWire f f.nx a.number a.x × (a.y ≤ f.ny)
  pub column_wire : a.kind ≡ Chany → IsWire f f.ny a.number a.y × (a.x ≤ f.nx)
