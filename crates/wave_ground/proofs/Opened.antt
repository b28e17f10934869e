-- Words of the crates below, opened.
use Rattle.std.proofs.Common.{◌≡◌, ℕ, ◌+◌, ◌-◌, ◌*◌, ◌<◌, ◌≤◌, arith, true, false, Option, Some, None, inl, inr, refl, sym, ap, ◌∙◌}
use Rattle.std.proofs.lemmas.Bool.{cases_lt, false≢true}
use Rattle.std.proofs.lemmas.Option.{none-some, same_Some, slice_get_past}
use Rattle.std.proofs.Math.Nat.{mul-zero, zero-mul}
use Rattle.std.specs.Option.{option_map, option_map_or}
use Rattle.routing_problem.specs.node.Kind.{Kind}
use Rattle.routing_problem.specs.node.Kind.TheVariants.{Source, Sink, Opin, Ipin, Chanx, Chany}
use Rattle.routing_problem.specs.node.Node.{Node}
use Rattle.routing_problem.specs.node.Span.{Span}
use Rattle.routing_problem.specs.Fabric.{Fabric}
use Rattle.routing_problem.specs.Nodes.{capacity_of, is_wire, is_wire_at, kind_of_node, node_at, node_count_of, nodes_of, span_of, wire_capacity}
use Rattle.routing_problem.specs.Problems.{Net, any_node, is_sink, is_sink_kind}
use Rattle.node_cost.specs.Costs.{cost_of, unit_factor}
use Rattle.node_cost.specs.Views.{history_in, others_in}
use Rattle.route_tree.specs.Usage.{room_of}
use Rattle.wavefront.specs.Boxes.{box_of_net, box_of_node, box_with, is_in_box, touches}
use Rattle.wavefront.specs.Space.{Space, base_cost, entry_cost, input_pin_base, wire_base}
use Rattle.wavefront.specs.kept.Bounds.{least_pin_cost, least_wire_cost}

pub net_box : (f : Fabric) (n : Net) → box_of_net f n ≡ box_with f (box_of_node f n.source) n.sinks
unfolding box_of_net
net_box f n = refl

pub inside_is : (f : Fabric) (bb : ℕ) (n : Net) (v : ℕ) (o : Option Span) → option_map (span_of f) (node_at f v) ≡ o → is_in_box f bb n v ≡ option_map_or (touches bb (box_of_net f n)) o false
unfolding is_in_box
inside_is f bb n v o e = ap (λ p. option_map_or (touches bb (box_of_net f n)) p false) e

pub cost_is : (s : Space) (v : ℕ) → entry_cost s v ≡ cost_of (option_map_or base_cost (kind_of_node s.device v) 0) (history_in s.view v) (room_of s.device (node_at s.device v)) (others_in s.view v) s.present
unfolding entry_cost
cost_is s v = refl

-- a wire's cost is by the base cost and the room of wires
by_kind : (f : Fabric) (n : Node) (k : Kind) → n.kind ≡ k → is_wire k ≡ true → (base_cost n.kind ≡ wire_base) × (capacity_of f n ≡ wire_capacity f.mode f.width)
by_kind f n Source e is = absurd (false≢true is)
by_kind f n Sink e is = absurd (false≢true is)
by_kind f n Opin e is = absurd (false≢true is)
by_kind f n Ipin e is = absurd (false≢true is)
by_kind f n Chanx e is = rw e (refl, refl)
by_kind f n Chany e is = rw e (refl, refl)

by_node : (s : Space) (v : ℕ) (o : Option Node) → option_map_or is_wire (option_map (λ (n : Node). n.kind) o) false ≡ true
    → cost_of (option_map_or base_cost (option_map (λ (n : Node). n.kind) o) 0) (history_in s.view v) (room_of s.device o) (others_in s.view v) s.present
    ≡ cost_of wire_base (history_in s.view v) (wire_capacity s.device.mode s.device.width) (others_in s.view v) s.present
by_node s v None is = absurd (false≢true is)
by_node s v (Some n) is = let told = by_kind s.device n n.kind refl is in ap (λ base. cost_of base (history_in s.view v) (capacity_of s.device n) (others_in s.view v) s.present) told.0 ∙ ap (λ room. cost_of wire_base (history_in s.view v) room (others_in s.view v) s.present) told.1

pub wire_paid : (s : Space) (v : ℕ) → is_wire_at s.device v ≡ true → entry_cost s v ≡ cost_of wire_base (history_in s.view v) (wire_capacity s.device.mode s.device.width) (others_in s.view v) s.present
wire_paid s v is = cost_is s v ∙ by_node s v (node_at s.device v) is

-- an input pin's cost is by its base cost, for one net
pin_by_node : (s : Space) (v : ℕ) (o : Option Node) → option_map (λ (n : Node). n.kind) o ≡ Some Ipin
    → cost_of (option_map_or base_cost (option_map (λ (n : Node). n.kind) o) 0) (history_in s.view v) (room_of s.device o) (others_in s.view v) s.present
    ≡ cost_of input_pin_base (history_in s.view v) 1 (others_in s.view v) s.present
pin_by_node s v None is = absurd (none-some _ is)
pin_by_node s v (Some n) is = let kind : n.kind ≡ Ipin = same_Some n.kind Ipin is in rw kind refl

pub pin_paid : (s : Space) (v : ℕ) → kind_of_node s.device v ≡ Some Ipin → entry_cost s v ≡ cost_of input_pin_base (history_in s.view v) 1 (others_in s.view v) s.present
pin_paid s v is = cost_is s v ∙ pin_by_node s v (node_at s.device v) is

-- one that nobody else uses and that has no history
pub free_pin_paid : (s : Space) (v : ℕ) → kind_of_node s.device v ≡ Some Ipin → (others_in s.view v ≡ 0) × (history_in s.view v ≡ 0) → entry_cost s v ≡ least_pin_cost
free_pin_paid s v is free =
    pin_paid s v is
    ∙ ap (λ history. cost_of input_pin_base history 1 (others_in s.view v) s.present) (free.1)
    ∙ ap (λ others. cost_of input_pin_base 0 1 others s.present) (free.0)
    ∙ ap (λ more. input_pin_base * (unit_factor + more)) (mul-zero s.present)

no_base : (o : Option Node) → any_node is_sink_kind o ≡ true → option_map_or base_cost (option_map (λ (n : Node). n.kind) o) 0 ≡ 0
no_base None is = refl
no_base (Some n) is = by_kind_of n.kind is
  where
    by_kind_of : (k : Kind) → is_sink_kind k ≡ true → base_cost k ≡ 0
    by_kind_of Sink is = refl
    by_kind_of _ is = absurd (false≢true is)

-- a sink that was never overused
pub new_sink_paid : (s : Space) (v : ℕ) → is_sink s.device v ≡ true → history_in s.view v ≡ 0 → entry_cost s v ≡ 0
unfolding is_sink
new_sink_paid s v is new =
    let room = room_of s.device (node_at s.device v) in
    cost_is s v
    ∙ ap (λ base. cost_of base (history_in s.view v) room (others_in s.view v) s.present) (no_base (node_at s.device v) is)
    ∙ ap (λ history. cost_of 0 history room (others_in s.view v) s.present) new
    ∙ zero-mul (16 + s.present * (others_in s.view v + 1 - room))

-- a wire that nobody else uses and that has no history
pub free_paid : (s : Space) (v : ℕ) → is_wire_at s.device v ≡ true → 1 ≤ wire_capacity s.device.mode s.device.width → (others_in s.view v ≡ 0) × (history_in s.view v ≡ 0) → entry_cost s v ≡ least_wire_cost
free_paid s v is some free =
    let room = wire_capacity s.device.mode s.device.width in
    let none : 0 + 1 - room ≡ 0 = omega (arith, some) in
    wire_paid s v is
    ∙ ap (λ history. cost_of wire_base history room (others_in s.view v) s.present) (free.1)
    ∙ ap (λ others. cost_of wire_base 0 room others s.present) (free.0)
    ∙ ap (λ over. wire_base * (unit_factor + s.present * over)) none
    ∙ ap (λ more. wire_base * (unit_factor + more)) (mul-zero s.present)

-- a wire is a node
pub wire_node : (f : Fabric) (v : ℕ) → is_wire_at f v ≡ true → v < node_count_of f
wire_node f v is = elim (cases_lt v (node_count_of f)) [
  | inl within ↦ within
  | inr past ↦ absurd (false≢true (sym (ap (λ o. option_map_or is_wire (option_map (λ (n : Node). n.kind) o) false) (slice_get_past (nodes_of f) v past)) ∙ is))
]
