-- Places of wires fit bytes.
use Rattle.std.proofs.Common.{◌≡◌, ℕ, ◌+◌, ◌-◌, ◌<◌, ◌≤◌, List, Option, Some, None, get_or, refl, subst, arith, lit≤}
use Rattle.std.specs.Prelude.{All, Bool, true, false, not, slice_get, if◌then◌else◌, unwrap_or}
use Rattle.std.specs.List.{range_with_len}
use Rattle.std.proofs.lemmas.List.Elements.{All-get_or}
use Rattle.std.proofs.lemmas.List.Sums.{prefix_len-le-length}
use Rattle.std.proofs.lemmas.List.FromFn.{length-range_with_len}
use Rattle.std.proofs.lemmas.Option.{slice_get_within, get_or_from_slice_get}
use Rattle.arch_file.specs.Architecture.{IsSegmentLength}
use Rattle.arch_file.specs.declared.entries.Segment.{Segment}
use Rattle.arch_file.specs.declared.entries.SegmentLength.{SegmentLength}
use Rattle.arch_file.specs.declared.entries.SegmentLength.TheVariants.{Places, Longline}
use Rattle.routing_problem.specs.node.Kind.{Kind}
use Rattle.routing_problem.specs.node.Kind.TheVariants.{Source, Sink, Opin, Ipin, Chanx, Chany}
use Rattle.routing_problem.specs.node.Mode.{Mode}
use Rattle.routing_problem.specs.node.Mode.TheVariants.{Detailed, Global}
use Rattle.routing_problem.specs.node.Node.{Node}
use Rattle.routing_problem.specs.node.Span.{Span}
use Rattle.routing_problem.specs.Fabric.{Fabric, IsFabric}
use Rattle.routing_problem.specs.Nodes.{node_at, is_wire, span_by, span_of, wire_in}
use Rattle.routing_problem.specs.Wires.{begins, length_by, length_of, places_of_length, places_of_type, reach_of, steps_of, type_of}
use Rattle.routing_problem.proofs.NodesByPlace.{place_of_node}
use Rattle.track_groups.specs.kept.Fields.{FitsBytes}
use Rattle.track_groups.specs.kept.Lone.{lone_by, lone_wire, no_wire}

-- ---- how many places a wire passes
few_places : (n : ℕ) (l : SegmentLength) → n ≤ 255 → IsSegmentLength l → places_of_length n l ≤ 255
few_places n (Places k) m h = omega (arith, h.1)
few_places n Longline m h = m

few_of_type : (n i : ℕ) (segments : List Segment) (o : Option Segment) → slice_get segments i ≡ o → All (λ s. IsSegmentLength s.length) segments → n ≤ 255 → places_of_type n o ≤ 255
few_of_type n i segments None e h m = lit≤ tt
few_of_type n i segments (Some s) e h m =
    let here : get_or segments i s ≡ s = get_or_from_slice_get segments i s s e in
    let fits = All-get_or (λ (t : Segment). IsSegmentLength t.length) segments i s (slice_get_within segments i s e) h in
    few_places n s.length m (subst (λ (t : Segment). IsSegmentLength t.length) here fits)

few_by : (mode : Mode) (segments : List Segment) (width n t : ℕ) → All (λ s. IsSegmentLength s.length) segments → n ≤ 255 → length_by mode segments width n t ≤ 255
few_by Detailed segments width n t h m = few_of_type n (type_of segments width t) segments _ refl h m
few_by Global segments width n t h m = lit≤ tt

few_length : (f : Fabric) (n t : ℕ) → IsFabric f → n ≤ 255 → length_of f n t ≤ 255
unfolding length_of
few_length f n t l m = few_by f.mode f.architecture.segments f.width n t l.limits.segment_lengths m

few_reach : (f : Fabric) (t : ℕ) → IsFabric f → reach_of f t ≤ 255
unfolding reach_of
few_reach f t l = omega (arith, few_length f f.nx t l (omega (arith, l.few_columns)), few_length f f.ny t l (omega (arith, l.few_rows)))

-- ---- where it ends
few_steps : (f : Fabric) (n t place : ℕ) → steps_of f n t place ≤ n - place
unfolding steps_of
few_steps f n t place =
    let ks = range_with_len (place + 1) (n - place) in
    omega (arith, prefix_len-le-length (λ k. not (begins f n t k)) ks, length-range_with_len (place + 1) (n - place))

pub record IsNear (s : Span) : Type 0 where
  pub x1 : s.x1 ≤ 255
  pub y1 : s.y1 ≤ 255
  pub x2 : s.x2 ≤ 255
  pub y2 : s.y2 ≤ 255

near_by : (k : Kind) (f : Fabric) (a : Node) → IsFabric f → a.x < f.nx + 2 → a.y < f.ny + 2 → IsNear (span_by k f a)
near_by Chanx f a l x y = record {
  x1 = omega (arith, l.few_columns);
  y1 = omega (arith, l.few_rows);
  x2 = omega (arith, l.few_columns, few_steps f f.nx a.number a.x);
  y2 = omega (arith, l.few_rows);
}
near_by Chany f a l x y = record {
  x1 = omega (arith, l.few_columns);
  y1 = omega (arith, l.few_rows);
  x2 = omega (arith, l.few_columns);
  y2 = omega (arith, l.few_rows, few_steps f f.ny a.number a.y);
}
near_by Source f a l x y = record { x1 = omega (arith, l.few_columns); y1 = omega (arith, l.few_rows); x2 = omega (arith, l.few_columns); y2 = omega (arith, l.few_rows) }
near_by Sink f a l x y = record { x1 = omega (arith, l.few_columns); y1 = omega (arith, l.few_rows); x2 = omega (arith, l.few_columns); y2 = omega (arith, l.few_rows) }
near_by Opin f a l x y = record { x1 = omega (arith, l.few_columns); y1 = omega (arith, l.few_rows); x2 = omega (arith, l.few_columns); y2 = omega (arith, l.few_rows) }
near_by Ipin f a l x y = record { x1 = omega (arith, l.few_columns); y1 = omega (arith, l.few_rows); x2 = omega (arith, l.few_columns); y2 = omega (arith, l.few_rows) }

-- ---- a wire alone
abbrev FitsTold : (w : ℕ) → Option (Kind × Span × ℕ) → Type 0
FitsTold w o = FitsBytes (lone_by w (unwrap_or o no_wire))

told_fits : (f : Fabric) → IsFabric f → (w : ℕ) (a : Node) (b : Bool) → a.x < f.nx + 2 → a.y < f.ny + 2 → FitsTold w (if b then Some (a.kind, span_of f a, reach_of f a.number) else None)
told_fits f l w a false x y = record { x1 = lit≤ tt; y1 = lit≤ tt; x2 = lit≤ tt; y2 = lit≤ tt; reach = lit≤ tt }
told_fits f l w a true x y = (let near = near_by a.kind f a l x y in record { x1 = near.x1; y1 = near.y1; x2 = near.x2; y2 = near.y2; reach = few_reach f a.number l })

node_fits : (f : Fabric) → IsFabric f → (w : ℕ) (o : Option Node) → node_at f w ≡ o → FitsTold w (wire_in f o)
unfolding wire_in
node_fits f l w None e = record { x1 = lit≤ tt; y1 = lit≤ tt; x2 = lit≤ tt; y2 = lit≤ tt; reach = lit≤ tt }
node_fits f l w (Some a) e = (let at = place_of_node f w a e in told_fits f l w a (is_wire a.kind) at.1 at.2)

pub lone_fits : (f : Fabric) → IsFabric f → (w : ℕ) → FitsBytes (lone_wire f w)
lone_fits f l w = node_fits f l w (node_at f w) refl
