-- Where an input pin leads.
use Rattle.std.proofs.Common.{◌≡◌, ℕ, [], ◌∷◌, Option, Some, None, refl}
use Rattle.std.specs.Option.{option_map}
use Rattle.std.proofs.lemmas.Option.{none-some, same_Some}
use Rattle.channel_tables.specs.declared.node.Kind.{Kind}
use Rattle.channel_tables.specs.declared.node.Kind.TheVariants.{Ipin}
use Rattle.channel_tables.specs.declared.node.Node.{Node}
use Rattle.channel_tables.specs.Fabric.{Fabric, IsFabric}
use Rattle.node_numbers.specs.Nodes.{node_at, kind_of_node}
use Rattle.rr_edges.specs.Edges.{successors_of}
use Rattle.rr_edges.proofs.SinksOfPins.{leads_to_sink}

kind_found : (found : Option Node) (k : Kind) → option_map (λ n. n.kind) found ≡ Some k → (a : Node) × (found ≡ Some a) × (a.kind ≡ k)
kind_found None k e = absurd (none-some k e)
kind_found (Some a) k e = (a, refl, same_Some a.kind k e)

-- an input pin leads to a sink
pub pin_leads_on : (f : Fabric) → IsFabric f → (pin : ℕ) → kind_of_node f pin ≡ Some Ipin → (sink : ℕ) × (successors_of f pin ≡ sink ∷ [])
pin_leads_on f within pin kind =
    let node = kind_found (node_at f pin) Ipin kind in
    let lead = leads_to_sink f within pin node.0 node.1 node.2 in
    (lead.sink, lead.alone)
