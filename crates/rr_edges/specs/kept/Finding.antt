-- The node of a number, or none.
use Rattle.std.specs.Prelude.{◌≡◌, ℕ, Option, Some, None}
use Rattle.rr_edges.specs.declared.found_node.FoundNode.{FoundNode}
use Rattle.channel_tables.specs.Fabric.{Fabric}
use Rattle.node_numbers.specs.Nodes.{node_at}
use Rattle.rr_edges.specs.FoundNodes.{IsFound}

-- the node of this number; none where there is none
abbrev pub IsFoundAt : Fabric → ℕ → Option FoundNode → Type 0
IsFoundAt f id (Some n) = (n.id ≡ id) × IsFound f n
IsFoundAt f id None = node_at f id ≡ None
