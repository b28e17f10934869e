-- What a way from a wire to a sink costs at least, and where one leads to no pin on.
use Rattle.std.proofs.Common.{◌≡◌, ℕ, ◌+◌, ◌*◌, ◌≤◌, true, false, ◌-◌, ◌⊎◌, inl, inr, List, [], ◌∷◌, Option, Some, None, refl, sym, ap, ◌∙◌, subst, arith}
use Rattle.std.specs.Option.{option_map, option_map_or}
use Rattle.std.proofs.Math.Nat.{mul-le-mul}
use Rattle.std.proofs.lemmas.Bool.{false≢true}
use Rattle.std.proofs.lemmas.Option.{same_Some}
use Rattle.routing_problem.specs.node.Kind.{Kind}
use Rattle.routing_problem.specs.node.Kind.TheVariants.{Source, Sink, Opin, Ipin, Chanx, Chany}
use Rattle.routing_problem.specs.node.Node.{Node}
use Rattle.routing_problem.specs.Fabric.{Fabric}
use Rattle.routing_problem.specs.Nodes.{node_at, is_wire, is_wire_at, kind_of_node, span_of}
use Rattle.routing_problem.specs.Numbering.{is_terminal}
use Rattle.routing_problem.specs.Pins.{belongs, taps}
use Rattle.routing_problem.specs.Edges.{edge_by, edge_between, edge_between_nodes, is_edge}
use Rattle.routing_problem.specs.Problems.{is_sink, is_sink_kind}
use Rattle.routing_problem.proofs.EdgeEnds.{pin_enters_sink}
use Rattle.routing_problem.proofs.TerminalPlaces.{terminal_node}
use Rattle.node_cost.specs.Views.{others_in, history_in}
use Rattle.route_tree.specs.Usage.{room_of}
use Rattle.wavefront.specs.Boxes.{BoundingBox}
use Rattle.wavefront.specs.Space.{Space, base_cost, entry_cost}
use Rattle.wavefront.specs.kept.Spaces.{IsSpace}
use Rattle.wavefront.specs.Ways.{IsWay, way_cost}
use Rattle.wavefront.specs.kept.Bounds.{Surrounds, left_over, steps_within, wires_by_kind}
use Rattle.wavefront.proofs.WayNodes.{way_cost_more}
use Rattle.wavefront.proofs.WireSteps.{wire_step}
use Rattle.wavefront.proofs.PinSteps.{pin_step, sink_step}

-- the nodes at the ends of an edge
pub record IsEdgeOf (f : Fabric) (i j : ℕ) : Type 0 where
  pub from : Node
  pub to : Node
  pub from_at : node_at f i ≡ Some from
  pub to_at : node_at f j ≡ Some to
  pub edge : is_edge f from to ≡ true

pub edge_nodes : (f : Fabric) (i j : ℕ) → edge_between f i j ≡ true → IsEdgeOf f i j
unfolding edge_between
edge_nodes f i j e = by_nodes (node_at f i) (node_at f j) refl refl e
  where
    by_nodes : (a b : Option Node) → node_at f i ≡ a → node_at f j ≡ b → edge_between_nodes f a b ≡ true → IsEdgeOf f i j
    by_nodes None b ea eb h = absurd (false≢true h)
    by_nodes (Some a) None ea eb h = absurd (false≢true h)
    by_nodes (Some a) (Some b) ea eb h = record { from = a; to = b; from_at = ea; to_at = eb; edge = h }

-- a node costs sixteen times its base cost, or more
product_paid : (b base factor : ℕ) → b ≤ base → 16 ≤ factor → 16 * b ≤ base * factor
product_paid b base factor h g = let p : b * 16 ≤ base * factor = mul-le-mul h g in omega (arith, p)

base_paid : (s : Space) (v : ℕ) (node : Node) → node_at s.device v ≡ Some node → 16 * base_cost node.kind ≤ entry_cost s v
unfolding entry_cost
base_paid s v node at =
    let base : option_map_or base_cost (kind_of_node s.device v) 0 ≡ base_cost node.kind = ap (λ o. option_map_or base_cost (option_map (λ n. n.kind) o) 0) at in
    product_paid (base_cost node.kind) (option_map_or base_cost (kind_of_node s.device v) 0 + history_in s.view v) (16 + s.present * (others_in s.view v + 1 - room_of s.device (node_at s.device v))) (omega (arith, base)) (omega arith)

wire_costs : (k : Kind) → is_wire k ≡ true → base_cost k ≡ 20
wire_costs Chanx e = refl
wire_costs Chany e = refl
wire_costs Source e = absurd (false≢true e)
wire_costs Sink e = absurd (false≢true e)
wire_costs Opin e = absurd (false≢true e)
wire_costs Ipin e = absurd (false≢true e)

pub wire_no_sink : (k : Kind) → is_wire k ≡ true → is_sink_kind k ≡ true → ⊥
wire_no_sink Chanx e h = false≢true h
wire_no_sink Chany e h = false≢true h
wire_no_sink Source e h = false≢true e
wire_no_sink Sink e h = false≢true e
wire_no_sink Opin e h = false≢true e
wire_no_sink Ipin e h = false≢true e

pub wire_paid : (s : Space) (v : ℕ) → is_wire_at s.device v ≡ true → 320 ≤ entry_cost s v
wire_paid s v e = by_node (node_at s.device v) refl
  where
    tells : (o : Option Node) → node_at s.device v ≡ o → option_map_or is_wire (option_map (λ n. n.kind) o) false ≡ true
    tells o at = ap (λ x. option_map_or is_wire (option_map (λ n. n.kind) x) false) (sym at) ∙ e

    by_node : (o : Option Node) → node_at s.device v ≡ o → 320 ≤ entry_cost s v
    by_node None at = absurd (false≢true (tells None at))
    by_node (Some n) at =
        let paid = base_paid s v n at in
        let base = wire_costs n.kind (tells (Some n) at) in
        omega (arith, paid, base)

-- from a wire an edge leads to a wire, or to an input pin that taps it
pub record Enters (f : Fabric) (wire pin : Node) : Type 0 where
  pub kind : pin.kind ≡ Ipin
  pub tap : taps f pin wire ≡ true

from_wire : (j k : Kind) (f : Fabric) (m n : Node) → is_wire j ≡ true → edge_by j k f m n ≡ true → (is_wire k ≡ true) ⊎ ((k ≡ Ipin) × (taps f n m ≡ true))
from_wire Chanx Chanx f m n g e = inl refl
from_wire Chanx Chany f m n g e = inl refl
from_wire Chany Chanx f m n g e = inl refl
from_wire Chany Chany f m n g e = inl refl
from_wire Chanx Ipin f m n g e = inr (refl, e)
from_wire Chany Ipin f m n g e = inr (refl, e)
from_wire Chanx _ f m n g e = absurd (false≢true e)
from_wire Chany _ f m n g e = absurd (false≢true e)
from_wire _ k f m n g e = absurd (false≢true g)

pub wire_leads : (f : Fabric) (m n : Node) → is_wire m.kind ≡ true → is_edge f m n ≡ true → (is_wire n.kind ≡ true) ⊎ Enters f m n
unfolding is_edge
wire_leads f m n g e = elim (from_wire m.kind n.kind f m n g e) [ inl w ↦ inl w | inr p ↦ inr (record { kind = p.0; tap = p.1 }) ]

pin_to : (k : Kind) (f : Fabric) (m n : Node) → edge_by Ipin k f m n ≡ true → belongs f m n ≡ true
pin_to Sink f m n e = e
pin_to _ f m n e = absurd (false≢true e)

pub pin_belongs : (f : Fabric) (m n : Node) → m.kind ≡ Ipin → is_edge f m n ≡ true → belongs f m n ≡ true
unfolding is_edge
pin_belongs f m n pin e = pin_to n.kind f m n (subst (λ k. edge_by k n.kind f m n ≡ true) pin e)

pub sink_at : (f : Fabric) (b : ℕ) (node : Node) → node_at f b ≡ Some node → is_sink f b ≡ true → is_sink_kind node.kind ≡ true
unfolding is_sink
sink_at f b node at e = rw at at e

module _ (s : Space) (ok : IsSpace s) (box : BoundingBox) (b : ℕ) (inside : Surrounds s.device box b) (sink : is_sink s.device b ≡ true) where
  -- after an input pin its sink comes, and nothing else
  pub pin_left : (steps : ℕ) (way : List ℕ) (u : ℕ) (wire pin : Node) → node_at s.device u ≡ Some pin → Enters s.device wire pin → IsWay s u way b → wires_by_kind steps wire.kind box (span_of s.device wire) ≡ 0
  pin_left steps [] u wire pin at enters walk = absurd (let h = sink_at s.device b pin (rw walk at at) sink in false≢true (rw enters.kind at h))
  pin_left steps (w ∷ []) u wire pin at enters walk =
      let e = edge_nodes s.device u w walk.0 in
      let same = same_Some pin e.from (sym at ∙ e.from_at) in
      let place = sink_step s.device e.from e.to (pin_belongs s.device e.from e.to (ap (λ n. n.kind) (sym same) ∙ enters.kind) e.edge) in
      let around = inside e.to (subst (λ x. node_at s.device x ≡ Some e.to) walk.2 e.to_at) in
      let terminal = terminal_node s.device ok.fabric u pin at (ap is_terminal enters.kind) in
      let ex = ap (λ n. n.x) same in
      let ey = ap (λ n. n.y) same in
      pin_step s.device steps box wire pin.x pin.y (omega (arith, ex, place.0, around.0)) (omega (arith, ex, place.0, around.1)) (omega (arith, ey, place.1, around.2)) (omega (arith, ey, place.1, around.3)) pin refl refl terminal.around enters.tap
  pin_left steps (w ∷ x ∷ way) u wire pin at enters walk = absurd (false≢true (sym (ok.ends w x walk.2.0) ∙ pin_enters_sink s.device u w (ap (option_map (λ n. n.kind)) at ∙ ap Some enters.kind) walk.0))

  pub way_left : (way : List ℕ) (v : ℕ) (node : Node) → node_at s.device v ≡ Some node → is_wire node.kind ≡ true → IsWay s v way b → left_over (wires_by_kind (steps_within s.device node.number) node.kind box (span_of s.device node)) ≤ way_cost s way
  way_left [] v node at wire walk = absurd (wire_no_sink node.kind wire (sink_at s.device b node (rw walk at at) sink))
  way_left (u ∷ way) v node at wire walk =
      let e = edge_nodes s.device v u walk.0 in
      let same = same_Some node e.from (sym at ∙ e.from_at) in
      let edge : is_edge s.device node e.to ≡ true = rw same e.edge in
      let sum = way_cost_more s u way in
      let paid = base_paid s u e.to e.to_at in
      elim (wire_leads s.device node e.to wire edge) [
        | inl next ↦
            let step = wire_step s.device ok.fabric box node.kind e.to.kind node.x node.y node.number e.to.x e.to.y e.to.number wire next edge in
            let rest = way_left way u e.to e.to_at next walk.2 in
            let base = wire_costs e.to.kind next in
            omega (arith, step, rest, base, sum, paid)
        | inr enters ↦
            let none = pin_left (steps_within s.device node.number) way u node e.to e.to_at enters walk.2 in
            let base = ap base_cost enters.kind in
            omega (arith, none, base, sum, paid)
      ]
