-- What all wirelengths come to, and what the places of all wires that are used.
use Rattle.std.proofs.Common.{◌≡◌, ℕ, ◌+◌, ◌*◌, ◌<◌, ◌≤◌, zero, suc, inl, inr, Bool, true, false, cond, if◌then◌else◌, List, [], ◌∷◌, length, take, map, Option, Some, None, refl, sym, ap, ap₂, ◌∙◌, arith, add-one}
use Rattle.std.specs.Prelude.{◌⊎◌, nat_lt, sum}
use Rattle.std.specs.List.{sum_by, filter}
use Rattle.std.proofs.lemmas.List.{take_all}
use Rattle.std.proofs.lemmas.List.Sums.{sum_by-cons}
use native.Mathlib.Nat.{zero-mul, one-mul, mul-zero, add-mul}
use Rattle.routing_problem.specs.node.Kind.{Kind}
use Rattle.routing_problem.specs.node.Kind.TheVariants.{Source, Sink, Opin, Ipin, Chanx, Chany}
use Rattle.routing_problem.specs.node.Mode.TheVariants.{Detailed}
use Rattle.routing_problem.specs.node.Node.{Node}
use Rattle.routing_problem.specs.Fabric.{Fabric, numbers_below}
use Rattle.routing_problem.specs.Wires.{reach_of}
use Rattle.routing_problem.specs.Nodes.{node_at, node_count_of, is_wire, span_by, capacity_by, wire_capacity, wire_in}
use Rattle.routing_problem.specs.Problems.{RoutingProblem, net_in}
use Rattle.routing_problem.proofs.Ranges.{sum_next, get_below}
use Rattle.route_tree.specs.Usage.{covers_by, use_by, use_of, room_of, overuse_of, Lists, list_in}
use Rattle.route_report.specs.Covered.{nodes_covered, uses_of, is_used}
use Rattle.route_report.specs.Figures.{places_used}
use Rattle.route_report.specs.Wirelength.{places_of_wire, places_at, wirelength_of, wirelengths_of}
use Rattle.route_report.proofs.Counting.{use_next}

-- ---- sums
pub sums_alike : (g h : ℕ → ℕ) (n : ℕ) → ((a : ℕ) → a < n → g a ≡ h a) → sum_by g (numbers_below n) ≡ sum_by h (numbers_below n)
sums_alike g h zero same = refl
sums_alike g h (suc n) same =
    let rest = sums_alike g h n (λ a l. same a (omega (arith, l))) in
    let here = same n (omega arith) in
    let one : sum_by g (numbers_below (suc n)) ≡ sum_by g (numbers_below n) + g n = ap (λ k. sum_by g (numbers_below k)) (sym (add-one n)) ∙ sum_next g n in
    let two : sum_by h (numbers_below (suc n)) ≡ sum_by h (numbers_below n) + h n = ap (λ k. sum_by h (numbers_below k)) (sym (add-one n)) ∙ sum_next h n in
    omega (arith, rest, here, one, two)

pub sums_both : (g h : ℕ → ℕ) (n : ℕ) → sum_by g (numbers_below n) + sum_by h (numbers_below n) ≡ sum_by (λ a. g a + h a) (numbers_below n)
sums_both g h zero = refl
sums_both g h (suc n) =
    let rest = sums_both g h n in
    let one : sum_by g (numbers_below (suc n)) ≡ sum_by g (numbers_below n) + g n = ap (λ k. sum_by g (numbers_below k)) (sym (add-one n)) ∙ sum_next g n in
    let two : sum_by h (numbers_below (suc n)) ≡ sum_by h (numbers_below n) + h n = ap (λ k. sum_by h (numbers_below k)) (sym (add-one n)) ∙ sum_next h n in
    let both : sum_by (λ a. g a + h a) (numbers_below (suc n)) ≡ sum_by (λ a. g a + h a) (numbers_below n) + (g n + h n) =
    ap (λ k. sum_by (λ a. g a + h a) (numbers_below k)) (sym (add-one n)) ∙ sum_next (λ a. g a + h a) n in
    omega (arith, rest, one, two, both)

kept_here : (b : Bool) (g : ℕ → ℕ) (x : ℕ) (xs : List ℕ) (rest : ℕ) → sum_by g xs ≡ rest → sum_by g (cond b (x ∷ xs) xs) ≡ (if b then 1 else 0) * g x + rest
kept_here true g x xs rest e = sum_by-cons g x xs ∙ ap₂ (λ a b. a + b) (sym (one-mul (g x))) e
kept_here false g x xs rest e = let none = zero-mul (g x) in omega (arith, none, e)

kept_sum : (p : ℕ → Bool) (g : ℕ → ℕ) (xs : List ℕ) → sum_by g (filter p xs) ≡ sum_by (λ a. (if p a then 1 else 0) * g a) xs
kept_sum p g [] = refl
kept_sum p g (x ∷ xs) =
    kept_here (p x) g x (filter p xs) (sum_by (λ a. (if p a then 1 else 0) * g a) xs) (kept_sum p g xs) ∙ sym (sum_by-cons (λ a. (if p a then 1 else 0) * g a) x xs)

pub sum_mapped : (g : ℕ → ℕ) (xs : List ℕ) → sum (map g xs) ≡ sum_by g xs
sum_mapped g [] = refl
sum_mapped g (x ∷ xs) = sum_by-cons (λ n. n) (g x) (map g xs) ∙ ap (λ n. g x + n) (sum_mapped g xs) ∙ sym (sum_by-cons g x xs)

-- ---- net by net
module _ (p : RoutingProblem) (lists : Lists) where
  abbrev places : ℕ → ℕ
  places a = places_at p.device a

  abbrev nodes : ℕ
  nodes = node_count_of p.device

  pub net_is : (i : ℕ) → wirelength_of p lists i ≡ sum_by (λ a. use_by (net_in p.nets i) (list_in lists i) a * places a) (numbers_below nodes)
  unfolding wirelength_of nodes_covered
  net_is i = kept_sum (covers_by (net_in p.nets i) (list_in lists i)) places (numbers_below nodes)

  nets_to : (k : ℕ) → k ≤ length p.nets → sum_by (wirelength_of p lists) (numbers_below k) ≡ sum_by (λ a. use_of (take k p.nets) lists a * places a) (numbers_below nodes)
  nets_to zero l = sym (sums_alike (λ a. use_of (take zero p.nets) lists a * places a) (λ a. 0) nodes (λ a low. zero-mul (places a)) ∙ nothing nodes)
    where
      nothing : (n : ℕ) → sum_by (λ (a : ℕ). 0) (numbers_below n) ≡ 0
      nothing zero = refl
      nothing (suc n) =
          let rest = nothing n in
          let next : sum_by (λ (a : ℕ). 0) (numbers_below (suc n)) ≡ sum_by (λ (a : ℕ). 0) (numbers_below n) + 0 = ap (λ k. sum_by (λ (a : ℕ). 0) (numbers_below k)) (sym (add-one n)) ∙ sum_next (λ a. 0) n in
          omega (arith, rest, next)
  nets_to (suc k) l =
      let so_far = nets_to k (omega (arith, l)) in
      let own = λ (a : ℕ). use_by (net_in p.nets k) (list_in lists k) a in
      let before = λ (a : ℕ). use_of (take k p.nets) lists a in
      ap (λ j. sum_by (wirelength_of p lists) (numbers_below j)) (sym (add-one k)) ∙ sum_next (wirelength_of p lists) k
      ∙ ap₂ (λ a b. a + b) so_far (net_is k)
      ∙ sums_both (λ a. before a * places a) (λ a. own a * places a) nodes
      ∙ sums_alike (λ a. before a * places a + own a * places a) (λ a. use_of (take (suc k) p.nets) lists a * places a) nodes
      (λ a low.
      sym (add-mul (before a) (own a) (places a))
      ∙ ap (λ u. u * places a) (sym (use_next p.nets lists k a (omega (arith, l))) ∙ ap (λ j. use_of (take j p.nets) lists a) (add-one k)))

  pub wirelength_by_wires : sum (wirelengths_of p lists) ≡ sum_by (λ a. use_of p.nets lists a * places_at p.device a) (numbers_below (node_count_of p.device))
  unfolding wirelengths_of
  wirelength_by_wires =
      sum_mapped (wirelength_of p lists) (numbers_below (length p.nets)) ∙ nets_to (length p.nets) (omega arith)
      ∙ ap (λ nets. sum_by (λ a. use_of nets lists a * places a) (numbers_below nodes)) (take_all (length p.nets) p.nets (omega arith))

-- ---- where no wire is overused
by_kind : (f : Fabric) → f.mode ≡ Detailed → (n : Node) (k : Kind) → (places_of_wire (if is_wire k then Some (k, span_by k f n, reach_of f n.number) else None) ≡ 0) ⊎ (capacity_by k f n ≡ 1)
by_kind f detailed n Source = inl refl
by_kind f detailed n Sink = inl refl
by_kind f detailed n Opin = inl refl
by_kind f detailed n Ipin = inl refl
by_kind f detailed n Chanx = inr (ap (λ m. wire_capacity m f.width) detailed)
by_kind f detailed n Chany = inr (ap (λ m. wire_capacity m f.width) detailed)

one_net : (f : Fabric) → f.mode ≡ Detailed → (o : Option Node) → (places_of_wire (wire_in f o) ≡ 0) ⊎ (room_of f o ≡ 1)
unfolding wire_in
one_net f detailed None = inl refl
one_net f detailed (Some n) = by_kind f detailed n n.kind

pub used_once : (u p : ℕ) → u ≤ 1 → (if nat_lt 0 u then p else 0) ≡ u * p
used_once zero p l = sym (zero-mul p)
used_once (suc zero) p l = sym (one-mul p)
used_once (suc (suc u)) p l = absurd (omega (arith, l))

no_places : (u p : ℕ) → p ≡ 0 → (if nat_lt 0 u then p else 0) ≡ u * p
no_places u p none = by_test (nat_lt 0 u) ∙ sym (ap (λ k. u * k) none ∙ mul-zero u)
  where
    by_test : (b : Bool) → (if b then p else 0) ≡ 0
    by_test true = none
    by_test false = refl

pub places_once : (p : RoutingProblem) (lists : Lists) → p.device.mode ≡ Detailed → ((a : ℕ) → overuse_of p lists a ≡ 0) → places_used p.device (uses_of p lists) ≡ sum (wirelengths_of p lists)
unfolding places_used uses_of overuse_of places_at
places_once p lists detailed within =
    sums_alike (λ a. if is_used (uses_of p lists) a then places_at p.device a else 0) (λ a. use_of p.nets lists a * places_at p.device a) (node_count_of p.device)
    (λ a low.
    let used = get_below (use_of p.nets lists) (node_count_of p.device) a 0 low in
    ap (λ u. if nat_lt 0 u then places_at p.device a else 0) used
    ∙ elim (one_net p.device detailed (node_at p.device a)) [
      | inl none ↦ no_places (use_of p.nets lists a) (places_at p.device a) none
      | inr one ↦ (let fits = within a in used_once (use_of p.nets lists a) (places_at p.device a) (omega (arith, fits, one)))
    ])
    ∙ sym (wirelength_by_wires p lists)
