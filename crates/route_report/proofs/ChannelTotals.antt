-- What is occupied in all channels.
use Rattle.std.proofs.Common.{◌≡◌, ℕ, ◌+◌, ◌-◌, ◌*◌, ◌<◌, ◌≤◌, ◌==◌, zero, suc, inl, inr, Bool, true, false, min, if◌then◌else◌, List, [], ◌∷◌, map, get_or, Option, Some, None, refl, sym, ap, ap₂, ◌∙◌, arith, add-one}
use Rattle.std.specs.Prelude.{◌&&◌, nat_le, nat_lt, sum}
use Rattle.std.specs.List.{sum_by}
use Rattle.std.proofs.lemmas.Bool.{cases_eq, eq-eqb, ne_eqb}
use Rattle.std.proofs.lemmas.Bool.Decides.{nat_tests}
use Rattle.std.proofs.lemmas.List.Sums.{sum_by-append, sum_by-cons}
use native.Mathlib.Nat.{zero-mul, suc-mul, mul_comm}
use Rattle.routing_problem.specs.node.Kind.{Kind}
use Rattle.routing_problem.specs.node.Kind.TheVariants.{Source, Sink, Opin, Ipin, Chanx, Chany}
use Rattle.routing_problem.specs.node.Mode.TheVariants.{Detailed, Global}
use Rattle.routing_problem.specs.node.Node.{Node}
use Rattle.routing_problem.specs.node.Span.{Span}
use Rattle.routing_problem.specs.Fabric.{Fabric, numbers_below}
use Rattle.routing_problem.specs.Wires.{steps_of, reach_of}
use Rattle.routing_problem.specs.Nodes.{node_at, node_count_of, is_wire, span_by, wire_in}
use Rattle.routing_problem.specs.Problems.{RoutingProblem}
use Rattle.routing_problem.proofs.Ranges.{sum_next, get_below}
use Rattle.routing_problem.proofs.WiresAtPlaces.{row_wire_at, column_wire_at}
use Rattle.route_tree.specs.Usage.{use_of, Lists}
use Rattle.route_report.specs.declared.occupancy.Stretch.{Stretch}
use Rattle.route_report.specs.Covered.{uses_of, is_used}
use Rattle.route_report.specs.Figures.{places_used}
use Rattle.route_report.specs.Wirelength.{places_of_wire, places_at, wirelengths_of}
use Rattle.route_report.specs.Channels.{occupied_by, occupies, occupancy_at, place_in, occupancies_in, channel_with, channels_along, channels_of}
use Rattle.route_report.specs.kept.Channels.{stretch_in, along, across}
use Rattle.route_report.proofs.Lengths.{steps_few}
use Rattle.route_report.proofs.Occupying.{by_node}
use Rattle.route_report.proofs.Totals.{sums_alike, sums_both, sum_mapped, used_once, wirelength_by_wires}

-- ---- sums of sums
pub sum_suc : (g : ℕ → ℕ) (n : ℕ) → sum_by g (numbers_below (suc n)) ≡ sum_by g (numbers_below n) + g n
sum_suc g n = ap (λ k. sum_by g (numbers_below k)) (sym (add-one n)) ∙ sum_next g n

pub sums_zero : (n : ℕ) → sum_by (λ (a : ℕ). 0) (numbers_below n) ≡ 0
sums_zero zero = refl
sums_zero (suc n) =
    let rest = sums_zero n in
    let next = sum_suc (λ a. 0) n in
    omega (arith, rest, next)

pub swapped : (g : ℕ → ℕ → ℕ) (m n : ℕ) → sum_by (λ i. sum_by (g i) (numbers_below n)) (numbers_below m) ≡ sum_by (λ a. sum_by (λ i. g i a) (numbers_below m)) (numbers_below n)
swapped g zero n = sym (sums_zero n)
swapped g (suc m) n =
    sum_suc (λ i. sum_by (g i) (numbers_below n)) m
    ∙ ap (λ k. k + sum_by (g m) (numbers_below n)) (swapped g m n)
    ∙ sums_both (λ a. sum_by (λ i. g i a) (numbers_below m)) (g m) n
    ∙ sums_alike (λ a. sum_by (λ i. g i a) (numbers_below m) + g m a) (λ a. sum_by (λ i. g i a) (numbers_below (suc m))) n (λ a l. sym (sum_suc (λ i. g i a) m))

sum_if : (b : Bool) (h : ℕ → ℕ) (n : ℕ) → sum_by (λ m. if b then h m else 0) (numbers_below n) ≡ (if b then sum_by h (numbers_below n) else 0)
sum_if true h n = refl
sum_if false h n = sums_zero n

none_picked : (i count x : ℕ) → count ≤ i → sum_by (λ c. if i == c then x else 0) (numbers_below count) ≡ 0
none_picked i zero x l = refl
none_picked i (suc count) x l =
    let rest = none_picked i count x (omega (arith, l)) in
    let next = sum_suc (λ c. if i == c then x else 0) count in
    let none : (if i == count then x else 0) ≡ 0 = ap (λ b. if b then x else 0) (ne_eqb i count (λ e. absurd (omega (arith, l, e)))) in
    omega (arith, rest, next, none)

pub one_picked : (i count x : ℕ) → i < count → sum_by (λ c. if i == c then x else 0) (numbers_below count) ≡ x
one_picked i zero x l = absurd (omega (arith, l))
one_picked i (suc count) x l = elim (cases_eq i count) [
  | inl same ↦ (
      let rest = none_picked i count x (omega (arith, same)) in
      let next = sum_suc (λ c. if i == c then x else 0) count in
      let one : (if i == count then x else 0) ≡ x = ap (λ b. if b then x else 0) (eq-eqb i count same) in
      omega (arith, rest, next, one))
  | inr apart ↦ (
      let rest = one_picked i count x (omega (arith, l, apart)) in
      let next = sum_suc (λ c. if i == c then x else 0) count in
      let none : (if i == count then x else 0) ≡ 0 = ap (λ b. if b then x else 0) (ne_eqb i count apart) in
      omega (arith, rest, next, none))
]

-- ---- along a stretch
module _ (first last by : ℕ) (from : 1 ≤ first) where
  abbrev goes : ℕ → Bool
  goes m = nat_le first (m + 1) && nat_le (m + 1) last

  one_place : (n k before : ℕ) → before ≡ min n last + 1 - first → k ≡ min (suc n) last + 1 - first → (t : Bool) → goes n ≡ t → before * by + (if t then by else 0) ≡ k * by
  one_place n k before was is true e =
      let more : k ≡ suc before = grind (arith, nat_tests, was, is, e) in
      sym (ap (λ j. j * by) more ∙ suc-mul before by)
  one_place n k before was is false e =
      let same : k ≡ before = grind (arith, nat_tests, was, is, e) in
      let whole : before * by ≡ k * by = ap (λ j. j * by) (sym same) in
      omega (arith, whole)

  stretch_sum : (n k : ℕ) → k ≡ min n last + 1 - first → sum_by (λ m. if goes m then by else 0) (numbers_below n) ≡ k * by
  stretch_sum zero k is =
      let none : k ≡ 0 = omega (arith, is, from) in
      sym (ap (λ j. j * by) none ∙ zero-mul by)
  stretch_sum (suc n) k is =
      let before = min n last + 1 - first in
      sum_suc (λ m. if goes m then by else 0) n ∙ ap (λ j. j + (if goes n then by else 0)) (stretch_sum n before refl) ∙ one_place n k before refl is (goes n) refl

in_channel : (s : Stretch) (by n count : ℕ) → s.channel < count → 1 ≤ s.first → s.last ≤ n →
    sum_by (λ c. sum_by (across (Some s) by c) (numbers_below n)) (numbers_below count) ≡ (s.last + 1 - s.first) * by
in_channel s by n count there from upto =
    sums_alike (λ c. sum_by (across (Some s) by c) (numbers_below n)) (λ c. if s.channel == c then sum_by (along s by) (numbers_below n) else 0) count
    (λ c l. sum_if (s.channel == c) (along s by) n)
    ∙ one_picked s.channel count (sum_by (along s by) (numbers_below n)) there
    ∙ stretch_sum s.first s.last by from n (s.last + 1 - s.first) (omega (arith, upto))

in_none : (by n count : ℕ) → sum_by (λ c. sum_by (across None by c) (numbers_below n)) (numbers_below count) ≡ 0
in_none by n count = sums_alike (λ c. sum_by (across None by c) (numbers_below n)) (λ c. 0) count (λ c l. sums_zero n) ∙ sums_zero count

-- ---- what one node adds
module _ (f : Fabric) (by : ℕ) where
  abbrev in_rows : Option (Kind × Span × ℕ) → ℕ
  in_rows w = sum_by (λ c. sum_by (across (stretch_in Chanx w) by c) (numbers_below f.nx)) (numbers_below (f.ny + 1))

  abbrev in_columns : Option (Kind × Span × ℕ) → ℕ
  in_columns w = sum_by (λ c. sum_by (across (stretch_in Chany w) by c) (numbers_below f.ny)) (numbers_below (f.nx + 1))

  no_wire : in_rows None + in_columns None ≡ 0 * by
  no_wire =
      let rows = in_none by f.nx (f.ny + 1) in
      let columns = in_none by f.ny (f.nx + 1) in
      let none = zero-mul by in
      omega (arith, rows, columns, none)

  module _ (a : ℕ) (n : Node) (h : node_at f a ≡ Some n) where
    abbrev wire_of : Kind → Option (Kind × Span × ℕ)
    wire_of k = if is_wire k then Some (k, span_by k f n, reach_of f n.number) else None

    of_kind : (k : Kind) → n.kind ≡ k → in_rows (wire_of k) + in_columns (wire_of k) ≡ places_of_wire (wire_of k) * by
    of_kind Source e = no_wire
    of_kind Sink e = no_wire
    of_kind Opin e = no_wire
    of_kind Ipin e = no_wire
    of_kind Chanx e =
        let at = row_wire_at f a n h e in
        let here = at.0 in
        let row = at.1 in
        let few = steps_few f f.nx n.number n.x in
        let steps = steps_of f f.nx n.number n.x in
        let rows = in_channel (record { channel = n.y; first = n.x; last = n.x + steps }) by f.nx (f.ny + 1) (omega (arith, row)) here.from (let upto = here.upto in omega (arith, few, upto)) in
        let columns = in_none by f.ny (f.nx + 1) in
        let long : n.x + steps + 1 - n.x ≡ (n.x + steps - n.x) + (n.y - n.y) + 1 = omega arith in
        let same : (n.x + steps + 1 - n.x) * by ≡ ((n.x + steps - n.x) + (n.y - n.y) + 1) * by = ap (λ j. j * by) long in
        omega (arith, rows, columns, same)
    of_kind Chany e =
        let at = column_wire_at f a n h e in
        let here = at.0 in
        let column = at.1 in
        let few = steps_few f f.ny n.number n.y in
        let steps = steps_of f f.ny n.number n.y in
        let columns = in_channel (record { channel = n.x; first = n.y; last = n.y + steps }) by f.ny (f.nx + 1) (omega (arith, column)) here.from (let upto = here.upto in omega (arith, few, upto)) in
        let rows = in_none by f.nx (f.ny + 1) in
        let long : n.y + steps + 1 - n.y ≡ (n.x - n.x) + (n.y + steps - n.y) + 1 = omega arith in
        let same : (n.y + steps + 1 - n.y) * by ≡ ((n.x - n.x) + (n.y + steps - n.y) + 1) * by = ap (λ j. j * by) long in
        omega (arith, rows, columns, same)

  of_node : (a : ℕ) (o : Option Node) → node_at f a ≡ o → in_rows (wire_in f o) + in_columns (wire_in f o) ≡ places_of_wire (wire_in f o) * by
  unfolding wire_in
  of_node a None h = no_wire
  of_node a (Some n) h = of_kind a n h n.kind refl

-- ---- what all nodes add
pub sum_of_images : {X : Type 0} (h : X → ℕ) (g : ℕ → X) (xs : List ℕ) → sum_by h (map g xs) ≡ sum_by (λ a. h (g a)) xs
sum_of_images h g [] = refl
sum_of_images h g (x ∷ xs) = sum_by-cons h (g x) (map g xs) ∙ ap (λ n. h (g x) + n) (sum_of_images h g xs) ∙ sym (sum_by-cons (λ a. h (g a)) x xs)

module _ (f : Fabric) (uses : List ℕ) where
  abbrev by_of : ℕ → ℕ
  by_of a = occupied_by f.mode (get_or uses a 0)

  abbrev nodes : List ℕ
  nodes = numbers_below (node_count_of f)

  abbrev wire_at : ℕ → Option (Kind × Span × ℕ)
  wire_at a = wire_in f (node_at f a)

  -- the channels of a kind, node by node
  channels_sum : (k : Kind) (n count : ℕ) → sum_by (λ c. c.total) (channels_along f uses k n count)
      ≡ sum_by (λ a. sum_by (λ c. sum_by (across (stretch_in k (wire_at a)) (by_of a) c) (numbers_below n)) (numbers_below count)) nodes
  unfolding occupancy_at
  channels_sum k n count =
      let x = λ (c m a : ℕ). occupies f uses (place_in k c m) a in
      sum_of_images (λ c. c.total) (λ c. channel_with k c (occupancies_in f uses k n c)) (numbers_below count)
      ∙ sums_alike (λ c. sum (occupancies_in f uses k n c)) (λ c. sum_by (λ a. sum_by (λ m. x c m a) (numbers_below n)) nodes) count
      (λ c l. sum_mapped (λ m. occupancy_at f uses (place_in k c m)) (numbers_below n) ∙ swapped (x c) n (node_count_of f))
      ∙ swapped (λ c a. sum_by (λ m. x c m a) (numbers_below n)) count (node_count_of f)
      ∙ sums_alike (λ a. sum_by (λ c. sum_by (λ m. x c m a) (numbers_below n)) (numbers_below count))
      (λ a. sum_by (λ c. sum_by (across (stretch_in k (wire_at a)) (by_of a) c) (numbers_below n)) (numbers_below count)) (node_count_of f)
      (λ a l.
      sums_alike (λ c. sum_by (λ m. x c m a) (numbers_below n)) (λ c. sum_by (across (stretch_in k (wire_at a)) (by_of a) c) (numbers_below n)) count
      (λ c o. sums_alike (λ m. x c m a) (across (stretch_in k (wire_at a)) (by_of a) c) n (λ m q. sym (by_node f (by_of a) c m k (node_at f a)))))

  pub occupied_in_all : sum_by (λ c. c.total) (channels_of f uses) ≡ sum_by (λ a. places_at f a * by_of a) nodes
  unfolding channels_of places_at
  occupied_in_all =
      sum_by-append (λ c. c.total) (channels_along f uses Chanx f.nx (f.ny + 1)) (channels_along f uses Chany f.ny (f.nx + 1))
      ∙ ap₂ (λ a b. a + b) (channels_sum Chanx f.nx (f.ny + 1)) (channels_sum Chany f.ny (f.nx + 1))
      ∙ sums_both (λ a. in_rows f (by_of a) (wire_at a)) (λ a. in_columns f (by_of a) (wire_at a)) (node_count_of f)
      ∙ sums_alike (λ a. in_rows f (by_of a) (wire_at a) + in_columns f (by_of a) (wire_at a)) (λ a. places_at f a * by_of a) (node_count_of f)
      (λ a l. of_node f (by_of a) a (node_at f a) refl)

-- ---- by mode
pub occupied_places : (f : Fabric) (uses : List ℕ) → f.mode ≡ Detailed → sum_by (λ c. c.total) (channels_of f uses) ≡ places_used f uses
unfolding places_used
occupied_places f uses detailed =
    occupied_in_all f uses
    ∙ sums_alike (λ a. places_at f a * occupied_by f.mode (get_or uses a 0)) (λ a. if is_used uses a then places_at f a else 0) (node_count_of f)
    (λ a l.
    ap (λ m. places_at f a * occupied_by m (get_or uses a 0)) detailed ∙ mul_comm (places_at f a) (min (get_or uses a 0) 1)
    ∙ sym (used_once (min (get_or uses a 0) 1) (places_at f a) (omega arith))
    ∙ ap (λ b. if b then places_at f a else 0) (some (get_or uses a 0)))
  where
    some : (u : ℕ) → nat_lt 0 (min u 1) ≡ nat_lt 0 u
    some u = grind (arith, nat_tests)

pub global_occupancy : (p : RoutingProblem) (lists : Lists) → p.device.mode ≡ Global → sum_by (λ c. c.total) (channels_of p.device (uses_of p lists)) ≡ sum (wirelengths_of p lists)
unfolding uses_of
global_occupancy p lists global =
    occupied_in_all p.device (uses_of p lists)
    ∙ sums_alike (λ a. places_at p.device a * occupied_by p.device.mode (get_or (uses_of p lists) a 0)) (λ a. use_of p.nets lists a * places_at p.device a) (node_count_of p.device)
    (λ a l.
    ap (λ m. places_at p.device a * occupied_by m (get_or (uses_of p lists) a 0)) global
    ∙ ap (λ u. places_at p.device a * u) (get_below (use_of p.nets lists) (node_count_of p.device) a 0 l)
    ∙ mul_comm (places_at p.device a) (use_of p.nets lists a))
    ∙ sym (wirelength_by_wires p lists)
