-- The numbers of a node are small.
use Rattle.std.proofs.Common.{◌≡◌, ℕ, zero, suc, ◌+◌, ◌-◌, ◌^◌, ◌<◌, ◌≤◌, not, List, [], ◌∷◌, length, get_or, Some, subst, arith}
use Rattle.std.specs.List.{range_with_len}
use Rattle.std.proofs.lemmas.Option.{slice_get_within, get_or_from_slice_get}
use Rattle.std.proofs.lemmas.List.FromFn.{length-range_with_len}
use Rattle.std.proofs.lemmas.List.Sums.{prefix_len-le-length}
use Rattle.rr_graph.specs.node.Kind.{Kind}
use Rattle.rr_graph.specs.node.Kind.TheVariants as kind
use Rattle.rr_graph.specs.node.Node.{Node}
use Rattle.rr_graph.specs.node.Span.{Span}
use Rattle.rr_graph.specs.Fabric.{Fabric, IsFabric}
use Rattle.rr_graph.specs.Nodes.{nodes_of, node_at, span_by}
use Rattle.rr_graph.specs.Wires.{begins, steps_of, last_of}
use Rattle.rr_graph.proofs.Order.{code_of, Ascends, nodes-ascend}
use Rattle.route_file.proofs.ReadReported.{IsSmall}

ascends-le : (lo hi : ℕ) (ns : List Node) → Ascends lo hi ns → lo ≤ hi
ascends-le lo hi [] h = h
ascends-le lo hi (n ∷ ns) h = omega (arith, h.0, ascends-le (code_of n + 1) hi ns h.1)

high-code : (lo hi : ℕ) (ns : List Node) (k : ℕ) (d : Node) → Ascends lo hi ns → k < length ns → code_of (get_or ns k d) < hi
high-code lo hi [] k d h l = absurd (omega arith)
high-code lo hi (n ∷ ns) zero d h l = omega (arith, ascends-le (code_of n + 1) hi ns h.1)
high-code lo hi (n ∷ ns) (suc k) d h l = high-code (code_of n + 1) hi ns k d h.1 (omega arith)

code_small : (f : Fabric) → IsFabric f → (a : ℕ) (n : Node) → node_at f a ≡ Some n → code_of n < 15980544
code_small f l a n e =
    let here : get_or (nodes_of f) a n ≡ n = get_or_from_slice_get (nodes_of f) a n n e in
    subst (λ m. code_of m < 15980544) here (high-code 0 15980544 (nodes_of f) a n (nodes-ascend f l) (slice_get_within (nodes_of f) a n e))

few_steps : (f : Fabric) (n track place : ℕ) → last_of f n track place ≤ place + n
unfolding steps_of
few_steps f n track place =
    let few = prefix_len-le-length (λ p. not (begins f n track p)) (range_with_len (place + 1) (n - place)) in
    omega (arith, few, length-range_with_len (place + 1) (n - place))

record SmallEnds (s : Span) : Type 0 where
  x1 : s.x1 < 2 ^ 32
  y1 : s.y1 < 2 ^ 32
  x2 : s.x2 < 2 ^ 32
  y2 : s.y2 < 2 ^ 32

ends_by : (k : Kind) (f : Fabric) (n : Node) → IsFabric f → n.x < 1000 → n.y < 100000 → SmallEnds (span_by k f n)
ends_by kind.Source f n l x y = record { x1 = omega arith; y1 = omega arith; x2 = omega arith; y2 = omega arith }
ends_by kind.Sink f n l x y = record { x1 = omega arith; y1 = omega arith; x2 = omega arith; y2 = omega arith }
ends_by kind.Opin f n l x y = record { x1 = omega arith; y1 = omega arith; x2 = omega arith; y2 = omega arith }
ends_by kind.Ipin f n l x y = record { x1 = omega arith; y1 = omega arith; x2 = omega arith; y2 = omega arith }
ends_by kind.Chanx f n l x y = record { x1 = omega arith; y1 = omega arith; x2 = omega (arith, few_steps f f.nx n.number n.x, l.few_columns); y2 = omega arith }
ends_by kind.Chany f n l x y = record { x1 = omega arith; y1 = omega arith; x2 = omega arith; y2 = omega (arith, few_steps f f.ny n.number n.y, l.few_rows) }

pub node_small : (f : Fabric) → IsFabric f → (a : ℕ) (n : Node) → node_at f a ≡ Some n → IsSmall f n
node_small f l a n e =
    let code = code_small f l a n e in
    let ends = ends_by n.kind f n l (omega (arith, code)) (omega (arith, code)) in
    record { x1 = ends.x1; y1 = ends.y1; x2 = ends.x2; y2 = ends.y2; number = omega (arith, code) }
