-- A box inside another needs no fewer wires.
use Rattle.std.proofs.Common.{ℕ, ◌-◌, ◌≤◌, arith}
use Rattle.routing_problem.specs.node.Kind.{Kind}
use Rattle.routing_problem.specs.node.Kind.TheVariants.{Source, Sink, Opin, Ipin, Chanx, Chany}
use Rattle.routing_problem.specs.node.Span.{Span}
use Rattle.wavefront.specs.Boxes.{BoundingBox}
use Rattle.wavefront.specs.kept.Bounds.{WireShape, IsInsideBox, gap, wires_by_kind, wires_to}
use Rattle.wavefront.proofs.WiresOver.{for_more}

told_more : (k : Kind) (steps : ℕ) (inner outer : BoundingBox) (s : Span) → IsInsideBox inner outer → wires_by_kind steps k outer s ≤ wires_by_kind steps k inner s
told_more Source steps inner outer s h = omega arith
told_more Sink steps inner outer s h = omega arith
told_more Opin steps inner outer s h = omega arith
told_more Ipin steps inner outer s h = omega arith
told_more Chanx steps inner outer s h = for_more steps _ _ (gap inner.left inner.right s.x1 s.x2) (gap (inner.bottom - 1) inner.top s.y1 s.y2) (omega (arith, h.left, h.right)) (omega (arith, h.bottom, h.top))
told_more Chany steps inner outer s h = for_more steps _ _ (gap inner.bottom inner.top s.y1 s.y2) (gap (inner.left - 1) inner.right s.x1 s.x2) (omega (arith, h.bottom, h.top)) (omega (arith, h.left, h.right))

pub told_within : (inner outer : BoundingBox) (wire : WireShape) → IsInsideBox inner outer → wires_to outer wire ≤ wires_to inner wire
told_within inner outer wire h = told_more wire.kind wire.steps inner outer wire.span h
