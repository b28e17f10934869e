-- A net's terminals are inside its box, and what stands where they do.
use Rattle.std.proofs.Common.{◌≡◌, ℕ, ◌+◌, ◌≤◌, true, false, List, [], ◌∷◌, Contains, Option, Some, None, inl, inr, ap, subst, arith}
use Rattle.std.specs.Option.{option_map, option_map_or}
use Rattle.std.proofs.lemmas.Bool.{false≢true}
use Rattle.std.proofs.lemmas.Bool.Decides.{nat_tests}
use Rattle.routing_problem.specs.node.Kind.{Kind}
use Rattle.routing_problem.specs.node.Kind.TheVariants.{Source, Sink, Opin, Ipin, Chanx, Chany}
use Rattle.routing_problem.specs.node.Node.{Node}
use Rattle.routing_problem.specs.node.Span.{Span}
use Rattle.routing_problem.specs.Fabric.{Fabric}
use Rattle.routing_problem.specs.Nodes.{node_at, span_by, span_of}
use Rattle.routing_problem.specs.Problems.{Net, is_source_kind, any_node, is_source}
use Rattle.wavefront.proofs.Lists.{contains_cases, contains_none}
use Rattle.wavefront.specs.Boxes.{BoundingBox}
use Rattle.wavefront.specs.Boxes.{box_of_span, box_of_node, box_around, box_with, box_of_net, touches, is_in_box}

-- one box reaches at least as far as another
record Reaches (b c : BoundingBox) : Type 0 where
  left : c.left ≤ b.left
  right : b.right ≤ c.right
  bottom : c.bottom ≤ b.bottom
  top : b.top ≤ c.top

reaches_around : (b c d : BoundingBox) → Reaches (box_around b c) d → Reaches b d
reaches_around b c d r =
    let l = r.left in
    let h = r.right in
    let m = r.bottom in
    let t = r.top in
    record { left = omega (arith, l); right = omega (arith, h); bottom = omega (arith, m); top = omega (arith, t) }

reaches_with : (f : Fabric) (b : BoundingBox) (vs : List ℕ) → Reaches b (box_with f b vs)
reaches_with f b [] = record { left = omega arith; right = omega arith; bottom = omega arith; top = omega arith }
reaches_with f b (v ∷ vs) = reaches_around b (box_of_node f v) _ (reaches_with f (box_around b (box_of_node f v)) vs)

reaches_second : (b c d : BoundingBox) → Reaches (box_around b c) d → Reaches c d
reaches_second b c d r =
    let l = r.left in
    let h = r.right in
    let m = r.bottom in
    let t = r.top in
    record { left = omega (arith, l); right = omega (arith, h); bottom = omega (arith, m); top = omega (arith, t) }

reaches_each : (f : Fabric) (b : BoundingBox) (vs : List ℕ) (v : ℕ) → Contains vs v → Reaches (box_of_node f v) (box_with f b vs)
reaches_each f b [] v h = absurd (contains_none v h)
reaches_each f b (u ∷ vs) v h = elim (contains_cases u v vs h) [
  | inl e ↦ rw e (reaches_second b (box_of_node f u) _ (reaches_with f (box_around b (box_of_node f u)) vs))
  | inr later ↦ reaches_each f (box_around b (box_of_node f u)) vs v later
]

-- the last place of a span is not before the first
record IsForward (s : Span) : Type 0 where
  across : s.x1 ≤ s.x2
  up : s.y1 ≤ s.y2

forward : (k : Kind) (f : Fabric) (n : Node) → IsForward (span_by k f n)
forward Source f n = record { across = omega arith; up = omega arith }
forward Sink f n = record { across = omega arith; up = omega arith }
forward Opin f n = record { across = omega arith; up = omega arith }
forward Ipin f n = record { across = omega arith; up = omega arith }
forward Chanx f n = record { across = omega arith; up = omega arith }
forward Chany f n = record { across = omega arith; up = omega arith }

within : (bb : ℕ) (b : BoundingBox) (s : Span) → s.x1 ≤ b.right + bb → b.left ≤ s.x2 + bb → s.y1 ≤ b.top + bb → b.bottom ≤ s.y2 + bb → touches bb b s ≡ true
within bb b s l r m t = grind (arith, nat_tests)

touched : (bb : ℕ) (b : BoundingBox) (s : Span) → IsForward s → Reaches (box_of_span s) b → touches bb b s ≡ true
touched bb b s on r =
    let across = on.across in
    let up = on.up in
    let left = r.left in
    let right = r.right in
    let bottom = r.bottom in
    let top = r.top in
    within bb b s (omega (arith, across, right)) (omega (arith, across, left)) (omega (arith, up, top)) (omega (arith, up, bottom))

inside_at : (f : Fabric) (bb : ℕ) (sinks : List ℕ) (o : Option Node) → any_node is_source_kind o ≡ true →
    option_map_or (touches bb (box_with f (option_map_or box_of_span (option_map (span_of f) o) (record { left = 0; right = 0; bottom = 0; top = 0 })) sinks)) (option_map (span_of f) o) false ≡ true
inside_at f bb sinks None e = absurd (false≢true e)
inside_at f bb sinks (Some n) e = touched bb _ (span_of f n) (forward n.kind f n) (reaches_with f (box_of_span (span_of f n)) sinks)

pub source_inside : (f : Fabric) (bb : ℕ) (n : Net) → is_source f n.source ≡ true → is_in_box f bb n n.source ≡ true
unfolding is_source is_in_box box_of_net
source_inside f bb n e = inside_at f bb n.sinks (node_at f n.source) e

-- a node that has the places of one of the net's sinks
pub sink_place_inside : (f : Fabric) (bb : ℕ) (n : Net) (v u : ℕ) (sink node : Node) → Contains n.sinks v → node_at f v ≡ Some sink → node_at f u ≡ Some node → span_of f node ≡ span_of f sink → is_in_box f bb n u ≡ true
unfolding is_in_box box_of_net
sink_place_inside f bb n v u sink node has at there same =
    let corner : BoundingBox = record { left = 0; right = 0; bottom = 0; top = 0 } in
    let places : box_of_node f v ≡ box_of_span (span_of f sink) = ap (λ o. option_map_or box_of_span (option_map (span_of f) o) corner) at in
    let reaches = subst (λ b. Reaches b (box_with f (box_of_node f n.source) n.sinks)) places (reaches_each f (box_of_node f n.source) n.sinks v has) in
    rw (there, same) (touched bb (box_with f (box_of_node f n.source) n.sinks) (span_of f sink) (forward sink.kind f sink) reaches)
