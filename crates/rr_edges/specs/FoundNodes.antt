-- Nodes that were found by their numbers.
use Rattle.std.specs.Prelude.{◌≡◌, ℕ, true, false, Option, Some, None}
use Rattle.rr_edges.specs.declared.found_node.FoundNode.{FoundNode}
use Rattle.channel_tables.specs.Fabric.{Fabric}
use Rattle.channel_tables.specs.LastPlaces.{last_by}
use Rattle.node_numbers.specs.Nodes.{node_at}
use Rattle.rr_edges.specs.Edges.{edge_between}

-- the node is that of its number, and its last place is reported
pub record IsFound (f : Fabric) (n : FoundNode) : Type 0 where
  pub node : node_at f n.id ≡ Some n.node
  pub last : n.last ≡ last_by n.node.kind f n.node

-- a node that was found, if any was
abbrev pub MayBeFound : Fabric → Option FoundNode → Type 0
MayBeFound f (Some n) = IsFound f n
MayBeFound f None = Unit {0}

-- the node at which the pair ends, if it is an edge; else none
abbrev pub TellsEdge : Fabric → ℕ × ℕ → Option FoundNode → Type 0
TellsEdge f pair (Some n) = (n.id ≡ pair.1) × IsFound f n × (edge_between f pair.0 pair.1 ≡ true)
TellsEdge f pair None = edge_between f pair.0 pair.1 ≡ false
