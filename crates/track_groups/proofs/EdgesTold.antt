-- Where an edge from a track of a group leads.
use Rattle.std.proofs.Common.{◌≡◌, ℕ, true, false, Option, Some, None, ◌⊎◌, inl, inr, refl, sym, ap, ◌∙◌}
use Rattle.std.specs.Prelude.{map, Contains}
use Rattle.std.specs.Option.{option_map, option_map_or}
use Rattle.std.proofs.lemmas.Bool.{false≢true}
use Rattle.routing_problem.specs.node.Kind.{Kind}
use Rattle.routing_problem.specs.node.Kind.TheVariants.{Source, Sink, Opin, Ipin, Chanx, Chany}
use Rattle.routing_problem.specs.node.Node.{Node}
use Rattle.routing_problem.specs.Fabric.{Fabric}
use Rattle.routing_problem.specs.Nodes.{node_at, kind_of_node, is_wire, is_wire_at}
use Rattle.routing_problem.specs.Edges.{edge_by, is_edge, edge_between_nodes, edge_between}
use Rattle.track_groups.specs.declared.group.GroupTrack.{GroupTrack}
use Rattle.track_groups.specs.Groups.{IsOn, wire_on}
use Rattle.track_groups.specs.Joints.{Tables, neighbours_of, taps_of, wire_beside, tap_on, IsTabled}
use Rattle.track_groups.proofs.WiresTold.{track_is_wire}

-- ---- edges from wires
edge_of_kinds : (k l : Kind) (f : Fabric) (a b : Node) → is_wire k ≡ true → edge_by k l f a b ≡ true → (l ≡ Ipin) ⊎ (is_wire l ≡ true)
edge_of_kinds Source l f a b w e = absurd (false≢true w)
edge_of_kinds Sink l f a b w e = absurd (false≢true w)
edge_of_kinds Opin l f a b w e = absurd (false≢true w)
edge_of_kinds Ipin l f a b w e = absurd (false≢true w)
edge_of_kinds Chanx Source f a b w e = absurd (false≢true e)
edge_of_kinds Chanx Sink f a b w e = absurd (false≢true e)
edge_of_kinds Chanx Opin f a b w e = absurd (false≢true e)
edge_of_kinds Chanx Ipin f a b w e = inl refl
edge_of_kinds Chanx Chanx f a b w e = inr refl
edge_of_kinds Chanx Chany f a b w e = inr refl
edge_of_kinds Chany Source f a b w e = absurd (false≢true e)
edge_of_kinds Chany Sink f a b w e = absurd (false≢true e)
edge_of_kinds Chany Opin f a b w e = absurd (false≢true e)
edge_of_kinds Chany Ipin f a b w e = inl refl
edge_of_kinds Chany Chanx f a b w e = inr refl
edge_of_kinds Chany Chany f a b w e = inr refl

edge_of_nodes : (f : Fabric) (o p : Option Node) → option_map_or is_wire (option_map (λ n. n.kind) o) false ≡ true → edge_between_nodes f o p ≡ true
    → (option_map (λ n. n.kind) p ≡ Some Ipin) ⊎ (option_map_or is_wire (option_map (λ n. n.kind) p) false ≡ true)
unfolding is_edge
edge_of_nodes f None p w e = absurd (false≢true w)
edge_of_nodes f (Some a) None w e = absurd (false≢true e)
edge_of_nodes f (Some a) (Some b) w e = elim (edge_of_kinds a.kind b.kind f a b w e) [
  | inl pin ↦ inl (ap (λ (k : Kind). Some k) pin)
  | inr wire ↦ inr wire
]

-- an edge leads from a wire to an input pin or to a wire
pub edge_from_wire : (f : Fabric) (w v : ℕ) → is_wire_at f w ≡ true → edge_between f w v ≡ true → (kind_of_node f v ≡ Some Ipin) ⊎ (is_wire_at f v ≡ true)
unfolding edge_between
edge_from_wire f w v wire e = edge_of_nodes f (node_at f w) (node_at f v) wire e

-- an edge from a track of a group leads to the same track of a neighbour, or to an input pin that
-- taps it
pub edge_told : (f : Fabric) (t : Tables) → IsTabled f t → (p : GroupTrack) → IsOn t.wires.groups p → (v : ℕ) → edge_between f (wire_on t.wires.groups p) v ≡ true
    → Contains (map (wire_beside t.wires.groups p.track) (neighbours_of t p.group)) v ⊎ ((kind_of_node f v ≡ Some Ipin) × (tap_on (taps_of t p.group) v p.track ≡ true))
edge_told f t h p on v e =
    let joined = h.joined p.group in
    elim (edge_from_wire f (wire_on t.wires.groups p) v (track_is_wire f t.wires h.grouped p on) e) [
      | inl pin ↦ inr (pin, sym (joined.pins p.track on v pin) ∙ e)
      | inr wire ↦ inl (((joined.wires p.track on).edges v wire).0 e)
    ]
