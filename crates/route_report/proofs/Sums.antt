-- Counts and sums over nodes and nets.
use Rattle.std.proofs.Common.{◌≡◌, ℕ, ◌+◌, ◌^◌, ◌<◌, ◌≤◌, Bool, cond, if◌then◌else◌, All, List, [], ◌∷◌, ◌++◌, length, get_or, map, sym, ap, ◌∙◌, subst, arith}
use Rattle.std.specs.Prelude.{count_by}
use Rattle.std.specs.List.{sum_by}
use Rattle.std.proofs.lemmas.List.Sums.{sum_by-le}
use Rattle.routing_problem.specs.Fabric.{Fabric, IsFabric, numbers_below}
use Rattle.routing_problem.specs.Problems.{RoutingProblem}
use Rattle.routing_problem.proofs.Ranges.{mapped_next, sum_next, length_below, get_below}
use Rattle.route_tree.specs.Usage.{Lists}
use Rattle.route_report.specs.Covered.{nodes_covered}
use Rattle.route_report.specs.Wirelength.{places_at, wirelength_of, wirelengths_of}
use Rattle.route_report.specs.declared.wire_types.WireTypeUse.{WireTypeUse}
use Rattle.route_report.specs.WireTypes.{wire_type_of}
use Rattle.route_report.proofs.Lengths.{places_few, covered_few}

pub count_next : (p : ℕ → Bool) (i : ℕ) → count_by p (numbers_below (i + 1)) ≡ count_by p (numbers_below i) + (if p i then 1 else 0)
count_next p i = sum_next (λ a. cond (p a) 1 0) i

pub sum_more : (g : ℕ → ℕ) (i : ℕ) → sum_by g (numbers_below (i + 1)) ≡ sum_by g (numbers_below i) + g i
sum_more g i = sum_next g i

-- ---- the wirelengths of nets
pub length_short : (p : RoutingProblem) (lists : Lists) (i : ℕ) → IsFabric p.device → wirelength_of p lists i ≤ 2 ^ 40
unfolding wirelength_of
length_short p lists i within =
    let most = sum_by-le (places_at p.device) 128 (nodes_covered p lists i) (λ k d l. places_few p.device within (get_or (nodes_covered p lists i) k d)) in
    let few = covered_few p lists i within in
    omega (arith, most, few)

pub lengths_few : (p : RoutingProblem) (lists : Lists) → length (wirelengths_of p lists) ≡ length p.nets
unfolding wirelengths_of
lengths_few p lists = length_below (wirelength_of p lists) (length p.nets)

pub lengths_short : (p : RoutingProblem) (lists : Lists) → IsFabric p.device → All (λ n. n ≤ 2 ^ 40) (wirelengths_of p lists)
unfolding wirelengths_of
lengths_short p lists within = λ k d l.
    let low : k < length p.nets = omega (arith, l, length_below (wirelength_of p lists) (length p.nets)) in
    subst (λ n. n ≤ 2 ^ 40) (sym (get_below (wirelength_of p lists) (length p.nets) k d low)) (length_short p lists k within)

-- ---- types of wire
pub types_next : (f : Fabric) (uses : List ℕ) (s : ℕ) (now new : List WireTypeUse) → now ≡ map (wire_type_of f uses) (numbers_below s) → new ≡ now ++ wire_type_of f uses s ∷ [] →
    new ≡ map (wire_type_of f uses) (numbers_below (s + 1))
types_next f uses s now new so_far more = more ∙ ap (λ (ts : List WireTypeUse). ts ++ wire_type_of f uses s ∷ []) so_far ∙ mapped_next (wire_type_of f uses) s
