-- Edges by the kinds of nodes at their ends, and where nodes stand.
use Rattle.std.proofs.Common.{◌≡◌, ℕ, ◌⊎◌, true, false, inl, inr, Option, Some, None, refl, sym, ap, ◌∙◌}
use Rattle.std.specs.Prelude.{Contains, slice_get}
use Rattle.std.specs.Option.{option_map}
use Rattle.std.proofs.lemmas.Bool.{both_ways}
use Rattle.std.proofs.lemmas.Option.{slice_get_within, slice_get-map, get_or_from_slice_get}
use Rattle.rr_graph.specs.node.Kind.{Kind}
use Rattle.rr_graph.specs.node.Kind.TheVariants.{Source, Sink, Opin, Ipin, Chanx, Chany}
use Rattle.rr_graph.specs.node.Node.{Node}
use Rattle.rr_graph.specs.Fabric.{Fabric}
use Rattle.rr_graph.specs.Pins.{taps, belongs}
use Rattle.rr_graph.specs.Nodes.{is_wire, is_source_kind, is_sink_kind, is_source, is_sink, any_node, node_of, nodes_at, numbers_at, node_at}
use Rattle.rr_graph.specs.Edges.{edge_by, edge_between, edge_between_nodes, is_edge, joins}
use Rattle.routing_problem.proofs.NodesByPlace.{place_of_node}

-- ---- the nodes at the ends of an edge
pub record EdgeEnds (f : Fabric) (a b : ℕ) : Type 0 where
  pub from : Node
  pub to : Node
  pub from_at : node_at f a ≡ Some from
  pub to_at : node_at f b ≡ Some to
  pub edge : is_edge f from to ≡ true

pub edge_ends : (f : Fabric) (a b : ℕ) → edge_between f a b ≡ true → EdgeEnds f a b
unfolding edge_between
edge_ends f a b e = at (node_at f a) (node_at f b) refl refl e
  where
    at : (o p : Option Node) → node_at f a ≡ o → node_at f b ≡ p → edge_between_nodes f o p ≡ true → EdgeEnds f a b
    at None p g h e = absurd (both_ways false refl e)
    at (Some m) None g h e = absurd (both_ways false refl e)
    at (Some m) (Some n) g h e = record { from = m; to = n; from_at = g; to_at = h; edge = e }

-- ---- by kinds
-- from a source an edge leads to an output pin of it
pub from_source : (f : Fabric) (m n : Node) → is_edge f m n ≡ true → is_source_kind m.kind ≡ true → (n.kind ≡ Opin) × (belongs f n m ≡ true)
unfolding is_edge
from_source f m n e s = by_kinds m.kind n.kind e s
  where
    by_kinds : (j k : Kind) → edge_by j k f m n ≡ true → is_source_kind j ≡ true → (k ≡ Opin) × (belongs f n m ≡ true)
    by_kinds Source Opin e s = (refl, e)
    by_kinds Source _ e s = absurd (both_ways false refl e)
    by_kinds _ _ e s = absurd (both_ways false refl s)

-- from an output pin to a wire that it taps
pub from_output : (f : Fabric) (m n : Node) → is_edge f m n ≡ true → m.kind ≡ Opin → (is_wire n.kind ≡ true) × (taps f m n ≡ true)
unfolding is_edge
from_output f m n e s = by_kinds n.kind (ap (λ k. edge_by k n.kind f m n) (sym s) ∙ e)
  where
    by_kinds : (k : Kind) → edge_by Opin k f m n ≡ true → (is_wire k ≡ true) × (taps f m n ≡ true)
    by_kinds Chanx e = (refl, e)
    by_kinds Chany e = (refl, e)
    by_kinds _ e = absurd (both_ways false refl e)

-- from a wire to a wire that it joins, or to an input pin that taps it
pub from_wire : (f : Fabric) (m n : Node) → is_edge f m n ≡ true → is_wire m.kind ≡ true → ((is_wire n.kind ≡ true) × (joins f m n ≡ true)) ⊎ ((n.kind ≡ Ipin) × (taps f n m ≡ true))
unfolding is_edge
from_wire f m n e s = by_kinds m.kind n.kind e s
  where
    by_kinds : (j k : Kind) → edge_by j k f m n ≡ true → is_wire j ≡ true → ((is_wire k ≡ true) × (joins f m n ≡ true)) ⊎ ((k ≡ Ipin) × (taps f n m ≡ true))
    by_kinds Chanx Chanx e s = inl (refl, e)
    by_kinds Chanx Chany e s = inl (refl, e)
    by_kinds Chany Chanx e s = inl (refl, e)
    by_kinds Chany Chany e s = inl (refl, e)
    by_kinds Chanx Ipin e s = inr (refl, e)
    by_kinds Chany Ipin e s = inr (refl, e)
    by_kinds Chanx _ e s = absurd (both_ways false refl e)
    by_kinds Chany _ e s = absurd (both_ways false refl e)
    by_kinds _ _ e s = absurd (both_ways false refl s)

-- from an input pin to the sink to which it belongs
pub from_input : (f : Fabric) (m n : Node) → is_edge f m n ≡ true → m.kind ≡ Ipin → (is_sink_kind n.kind ≡ true) × (belongs f m n ≡ true)
unfolding is_edge
from_input f m n e s = by_kinds n.kind (ap (λ k. edge_by k n.kind f m n) (sym s) ∙ e)
  where
    by_kinds : (k : Kind) → edge_by Ipin k f m n ≡ true → (is_sink_kind k ≡ true) × (belongs f m n ≡ true)
    by_kinds Sink e = (refl, e)
    by_kinds _ e = absurd (both_ways false refl e)

-- from a sink nowhere
pub from_sink : (f : Fabric) (m n : Node) → is_edge f m n ≡ true → is_sink_kind m.kind ≡ true → ⊥
unfolding is_edge
from_sink f m n e s = by_kinds m.kind n.kind e s
  where
    by_kinds : (j k : Kind) → edge_by j k f m n ≡ true → is_sink_kind j ≡ true → ⊥
    by_kinds Sink _ e s = both_ways false refl e
    by_kinds _ _ e s = both_ways false refl s

-- ---- sources and sinks
pub source_at : (f : Fabric) (a : ℕ) → is_source f a ≡ true → (n : Node) × (node_at f a ≡ Some n) × (is_source_kind n.kind ≡ true)
unfolding is_source
source_at f a e = at (node_at f a) refl e
  where
    at : (o : Option Node) → node_at f a ≡ o → any_node is_source_kind o ≡ true → (n : Node) × (node_at f a ≡ Some n) × (is_source_kind n.kind ≡ true)
    at None h e = absurd (both_ways false refl e)
    at (Some n) h e = (n, h, e)

pub sink_node : (f : Fabric) (a : ℕ) → is_sink f a ≡ true → (n : Node) × (node_at f a ≡ Some n) × (is_sink_kind n.kind ≡ true)
unfolding is_sink
sink_node f a e = at (node_at f a) refl e
  where
    at : (o : Option Node) → node_at f a ≡ o → any_node is_sink_kind o ≡ true → (n : Node) × (node_at f a ≡ Some n) × (is_sink_kind n.kind ≡ true)
    at None h e = absurd (both_ways false refl e)
    at (Some n) h e = (n, h, e)

pub sink_at : (f : Fabric) (a : ℕ) (n : Node) → is_sink f a ≡ true → node_at f a ≡ Some n → is_sink_kind n.kind ≡ true
unfolding is_sink
sink_at f a n e h = ap (any_node is_sink_kind) (sym h) ∙ e

-- a node stands at its place
pub stands : (f : Fabric) (i : ℕ) (n : Node) → node_at f i ≡ Some n → Contains (nodes_at f n.kind n.x n.y) n
stands f i n h =
    let placed = place_of_node f i n h in
    let here : slice_get (nodes_at f n.kind n.x n.y) placed.0 ≡ Some n = slice_get-map (node_of n.kind n.x n.y) (numbers_at f n.kind n.x n.y) placed.0 ∙ ap (option_map (node_of n.kind n.x n.y)) placed.3 in
    (placed.0, slice_get_within (nodes_at f n.kind n.x n.y) placed.0 n here, get_or_from_slice_get (nodes_at f n.kind n.x n.y) placed.0 n n here)
