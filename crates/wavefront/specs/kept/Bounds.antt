-- How many wires a way still has to enter, at least.
use Rattle.std.specs.Prelude.{◌≡◌, ℕ, ◌+◌, ◌-◌, ◌*◌, ◌/◌, ◌≤◌, true, Some, min, max}
use Rattle.routing_problem.specs.node.Kind.{Kind}
use Rattle.routing_problem.specs.node.Kind.TheVariants.{Source, Sink, Opin, Ipin, Chanx, Chany}
use Rattle.routing_problem.specs.node.Node.{Node}
use Rattle.routing_problem.specs.node.Span.{Span}
use Rattle.routing_problem.specs.Fabric.{Fabric}
use Rattle.routing_problem.specs.Wires.{reach_of}
use Rattle.routing_problem.specs.Nodes.{node_at, is_wire, span_of}
use Rattle.node_cost.specs.Costs.{unit_factor}
use Rattle.wavefront.specs.Boxes.{BoundingBox}
use Rattle.wavefront.specs.Space.{wire_base, input_pin_base}

-- a wire's kind, the places that it passes, and over how many steps the wires of its track go on at
-- most after the places where they begin
pub record WireShape : Type 0 where
  pub kind : Kind
  pub span : Span
  pub steps : ℕ

-- by how much the numbers from first to last lie outside those from low to high
abbrev pub gap : (low high first last : ℕ) → ℕ
gap low high first last = (low - last) + (first - high)

-- how many wires lead over so many places at least, where each goes on over so many steps at most
unfoldable pub wires_over : (steps places : ℕ) → ℕ
wires_over steps places = (places + steps) / (steps + 1)

-- how many lead over so many places along a channel, and so many across
abbrev pub wires_from : (steps along across : ℕ) → ℕ
wires_from steps along across = wires_over steps along + wires_over steps across

-- how many wires lead on, where the wire lies so far off along its channel, and so far across. The
-- last one lies along the channel, which is there where others lead across, or it lies across, and
-- the corner where it is entered is a place nearer
abbrev pub wires_for : (steps along across : ℕ) → ℕ
wires_for steps along across = min (wires_from steps (max along (min 1 across)) across) (wires_from steps (along - 1) (across + 1))

-- how many wires lead from one of this span to one beside the box's blocks, at least
abbrev pub wires_by_kind : (steps : ℕ) → Kind → BoundingBox → Span → ℕ
wires_by_kind steps Source box s = 0
wires_by_kind steps Sink box s = 0
wires_by_kind steps Opin box s = 0
wires_by_kind steps Ipin box s = 0
wires_by_kind steps Chanx box s = wires_for steps (gap box.left box.right s.x1 s.x2) (gap (box.bottom - 1) box.top s.y1 s.y2)
wires_by_kind steps Chany box s = wires_for steps (gap box.bottom box.top s.y1 s.y2) (gap (box.left - 1) box.right s.x1 s.x2)

-- the fewest that lead from a wire to one beside the box's blocks
abbrev pub wires_to : BoundingBox → WireShape → ℕ
wires_to box wire = wires_by_kind wire.steps wire.kind box wire.span

-- what it costs at least to enter a wire, and an input pin
abbrev pub least_wire_cost : ℕ
least_wire_cost = wire_base * unit_factor

abbrev pub least_pin_cost : ℕ
least_pin_cost = input_pin_base * unit_factor

-- what a way that goes on over so many wires, and an input pin, costs at least
abbrev pub left_over : (wires : ℕ) → ℕ
left_over wires = least_wire_cost * wires + least_pin_cost

-- node v is inside the box
abbrev pub Surrounds : Fabric → BoundingBox → ℕ → Type 0
Surrounds f box v = (node : Node) → node_at f v ≡ Some node → (box.left ≤ node.x) × (node.x ≤ box.right) × (box.bottom ≤ node.y) × (node.y ≤ box.top)

-- over how many steps the wires of a track go on at most after the places where they begin
abbrev pub steps_within : Fabric → (track : ℕ) → ℕ
steps_within f track = reach_of f track - 1

-- node v is a wire of this kind and span, in a track whose wires go on over so many steps at most
pub record IsWireAt (f : Fabric) (v : ℕ) (wire : WireShape) : Type 0 where
  pub node : Node
  pub there : node_at f v ≡ Some node
  pub is : is_wire node.kind ≡ true
  pub kind : wire.kind ≡ node.kind
  pub span : wire.span ≡ span_of f node
  pub steps : wire.steps ≡ steps_within f node.number

-- a place inside one box is inside the other
pub record IsInsideBox (inner outer : BoundingBox) : Type 0 where
  pub left : outer.left ≤ inner.left
  pub right : inner.right ≤ outer.right
  pub bottom : outer.bottom ≤ inner.bottom
  pub top : inner.top ≤ outer.top
