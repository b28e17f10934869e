-- How many places wires pass.
use Rattle.routing_problem.proofs.Ranges.{mapped_next}
use Rattle.std.proofs.Common.{◌≡◌, ℕ, map, ◌++◌, zero, suc, max, drop, drop-cons, get_or, add-one, ◌+◌, ◌-◌, ◌^◌, ◌<◌, ◌≤◌, Bool, true, false, List, [], ◌∷◌, length, Option, Some, None, if◌then◌else◌, refl, sym, ap, ◌∙◌, arith}
use Rattle.std.specs.Prelude.{not}
use Rattle.std.specs.List.{range_with_len}
use Rattle.std.proofs.lemmas.List.Sums.{prefix_len-le-length, length-filter, count_by-le-length}
use Rattle.std.proofs.lemmas.List.FromFn.{length-range_with_len}
use Rattle.routing_problem.specs.node.Kind.{Kind}
use Rattle.routing_problem.specs.node.Kind.TheVariants.{Source, Sink, Opin, Ipin, Chanx, Chany}
use Rattle.routing_problem.specs.node.Node.{Node}
use Rattle.routing_problem.specs.Fabric.{Fabric, IsFabric, numbers_below}
use Rattle.routing_problem.specs.Wires.{begins, steps_of, reach_of}
use Rattle.routing_problem.specs.Nodes.{node_at, node_count_of, is_wire, span_by, span_of, wire_in}
use Rattle.routing_problem.specs.Problems.{RoutingProblem, net_in}
use Rattle.routing_problem.proofs.Order.{node_count_below}
use Rattle.route_tree.specs.Usage.{covers_by, Lists, list_in}
use Rattle.route_report.specs.Covered.{nodes_covered}
use Rattle.route_report.specs.Wirelength.{places_along, places_of_wire, places_at, greatest_in}

pub steps_few : (f : Fabric) (n track place : ℕ) → steps_of f n track place ≤ n - place
unfolding steps_of
steps_few f n track place =
    let most = prefix_len-le-length (λ j. not (begins f n track j)) (range_with_len (place + 1) (n - place)) in
    let size = length-range_with_len (place + 1) (n - place) in
    omega (arith, most, size)

span_few : (f : Fabric) → IsFabric f → (k : Kind) (n : Node) → places_along (span_by k f n) ≤ 128
span_few f within Chanx n = let few = steps_few f f.nx n.number n.x in let limit = within.few_columns in omega (arith, few, limit)
span_few f within Chany n = let few = steps_few f f.ny n.number n.y in let limit = within.few_rows in omega (arith, few, limit)
span_few f within Source n = omega arith
span_few f within Sink n = omega arith
span_few f within Opin n = omega arith
span_few f within Ipin n = omega arith

wire_few : (f : Fabric) → IsFabric f → (o : Option Node) → places_of_wire (wire_in f o) ≤ 128
unfolding wire_in
wire_few f within None = omega arith
wire_few f within (Some n) = by_kind (is_wire n.kind)
  where
    by_kind : (b : Bool) → places_of_wire (if b then Some (n.kind, span_of f n, reach_of f n.number) else None) ≤ 128
    by_kind true = span_few f within n.kind n
    by_kind false = omega arith

pub places_few : (f : Fabric) → IsFabric f → (a : ℕ) → places_at f a ≤ 128
unfolding places_at
places_few f within a = wire_few f within (node_at f a)

pub covered_few : (p : RoutingProblem) (lists : Lists) (i : ℕ) → IsFabric p.device → length (nodes_covered p lists i) ≤ 2 ^ 23
unfolding nodes_covered
covered_few p lists i within =
    let test = covers_by (net_in p.nets i) (list_in lists i) in
    let kept = length-filter test (numbers_below (node_count_of p.device)) in
    let few = count_by-le-length test (numbers_below (node_count_of p.device)) in
    let count = length-range_with_len 0 (node_count_of p.device) in
    let below = node_count_below p.device within in
    omega (arith, kept, few, count, below)

-- ---- the greatest number
pub greatest_next : (ns : List ℕ) (i most : ℕ) → i < length ns → max most (greatest_in (drop i ns)) ≡ greatest_in ns →
    max (max most (get_or ns i 0)) (greatest_in (drop (i + 1) ns)) ≡ greatest_in ns
greatest_next ns i most l so_far =
    let split : greatest_in (drop i ns) ≡ max (get_or ns i 0) (greatest_in (drop (i + 1) ns)) =
    ap greatest_in (drop-cons ns i 0 l) ∙ ap (λ k. max (get_or ns i 0) (greatest_in (drop k ns))) (sym (add-one i)) in
    omega (arith, split, so_far)

pub greatest_all : (ns : List ℕ) (i most : ℕ) → length ns ≤ i → max most (greatest_in (drop i ns)) ≡ greatest_in ns → most ≡ greatest_in ns
greatest_all ns i most all so_far =
    let none : greatest_in (drop i ns) ≡ 0 = ap greatest_in (drop_past i ns all) in
    omega (arith, none, so_far)
  where
    drop_past : (i : ℕ) (ns : List ℕ) → length ns ≤ i → drop i ns ≡ []
    drop_past zero [] l = refl
    drop_past (suc i) [] l = refl
    drop_past zero (n ∷ ns) l = absurd (omega (arith, l))
    drop_past (suc i) (n ∷ ns) l = drop_past i ns (omega (arith, l))

pub lengths_next : (f : ℕ → ℕ) (i : ℕ) (now new : List ℕ) → now ≡ map f (numbers_below i) → new ≡ now ++ f i ∷ [] → new ≡ map f (numbers_below (i + 1))
lengths_next f i now new so_far more = more ∙ ap (λ ns. ns ++ f i ∷ []) so_far ∙ mapped_next f i
