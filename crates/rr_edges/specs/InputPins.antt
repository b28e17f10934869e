-- The input pins of a sink.
use Rattle.std.specs.Prelude.{◌≡◌, ℕ, [], ◌∷◌, Some}
use Rattle.channel_tables.specs.declared.node.Kind.TheVariants.{Ipin}
use Rattle.channel_tables.specs.Fabric.{Fabric}
use Rattle.node_numbers.specs.Nodes.{kind_of_node}
use Rattle.rr_edges.specs.Edges.{successors_of}

-- an input pin that leads to the sink, and to nothing else
pub record IsPinOf (f : Fabric) (sink pin : ℕ) : Type 0 where
  pub kind : kind_of_node f pin ≡ Some Ipin
  pub leads : successors_of f pin ≡ sink ∷ []
