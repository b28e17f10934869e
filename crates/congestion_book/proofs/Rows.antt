-- The row of an iteration, node by node.
use Rattle.std.proofs.Common.{◌≡◌, inl, inr, ℕ, ◌+◌, ◌-◌, ◌<◌, ◌≤◌, ◌==◌, zero, suc, Bool, true, false, cond, nat_lt, List, [], ◌∷◌, ◌++◌, length, map, get_or, refl, sym, ap, ◌∙◌, arith, add-one, add-zero, All, subst}
use Rattle.std.specs.List.{filter, sum_by}
use Rattle.std.proofs.lemmas.List.{map-append, append-nil}
use Rattle.std.proofs.lemmas.List.Elements.{filter-append, All-append, All-cons, All-nil, All-head, All-tail}
use Rattle.std.proofs.lemmas.List.Sums.{sum_by-cons, sum_by-append}
use Rattle.std.proofs.lemmas.Bool.{cases_eq, eq-eqb, ne_eqb}
use Rattle.std.proofs.lemmas.Bool.Decides.{nat_tests}
use Rattle.std.specs.Prelude.{if◌then◌else◌, count_by}
use Rattle.route_tree.specs.Usage.{use_of, overuse_of, room_of, Lists}
use Rattle.route_tree.proofs.Uses.{overuse_counted, few_uses}
use Rattle.routing_problem.specs.Nodes.{node_at, node_count_of}
use Rattle.routing_problem.specs.Problems.{RoutingProblem, IsProblem}
use Rattle.congestion_book.specs.Recorded.{overused_in, excess_in}
use Rattle.routing_problem.specs.Fabric.{Fabric, numbers_below}
use Rattle.routing_problem.proofs.Ranges.{below_next}
use Rattle.congestion_book.specs.Histories.{Amount, AscendFrom, IsRow, amount_in, row_of}
use Rattle.congestion_book.specs.kept.Usage.{excess_of, row_by, entry_of, excess_by, is_over, overused_by}
use Rattle.congestion_book.proofs.Counting.{same_counts}

-- the entries of the first n nodes
abbrev pub entries : (ℕ → ℕ) → ℕ → List (ℕ × ℕ)
entries g n = filter (λ (e : ℕ × ℕ). nat_lt 0 e.1) (map (λ a. (a, g a)) (numbers_below n))

pub row_next : (g : ℕ → ℕ) (n : ℕ) → entries g (n + 1) ≡ entries g n ++ entry_of (n, g n)
row_next g n =
    let overused : ℕ × ℕ → Bool = λ e. nat_lt 0 e.1 in
    let node : ℕ → ℕ × ℕ = λ a. (a, g a) in
    ap (λ ns. filter overused (map node ns)) (below_next n)
    ∙ (ap (filter overused) (map-append node (numbers_below n) (n ∷ []))
    ∙ filter-append overused (map node (numbers_below n)) (node n ∷ []))

pub row_is : (f : Fabric) (counts : List ℕ) (n : ℕ) → length counts ≡ n → entries (excess_of f counts) n ≡ row_by f counts
unfolding row_by
row_is f counts n e = ap (entries (excess_of f counts)) (sym e)

-- ---- what a row says of each node
amount_here : (n a by : ℕ) (some same : Bool) → nat_lt 0 by ≡ some → (n == a) ≡ same → amount_in (cond some ((n, by) ∷ []) []) a ≡ cond same by 0
amount_here n a by true same e is =
    sum_by-cons (λ (e : ℕ × ℕ). if e.0 == a then e.1 else 0) (n, by) [] ∙ (ap (λ b. cond b by 0 + 0) is ∙ add-zero (cond same by 0))
amount_here n a by false same e is = let none : by ≡ 0 = grind (arith, nat_tests) in sym (nothing same by none)
  where
    nothing : (b : Bool) (by : ℕ) → by ≡ 0 → cond b by 0 ≡ 0
    nothing true by e = e
    nothing false by e = refl

amount_entry : (n a by : ℕ) → amount_in (entry_of (n, by)) a ≡ cond (n == a) by 0
amount_entry n a by = amount_here n a by (nat_lt 0 by) (n == a) refl refl

amount_step : (g : ℕ → ℕ) (n a : ℕ) → amount_in (entries g (suc n)) a ≡ amount_in (entries g n) a + cond (n == a) (g n) 0
amount_step g n a =
    ap (λ k. amount_in (entries g k) a) (sym (add-one n))
    ∙ (ap (λ r. amount_in r a) (row_next g n)
    ∙ (sum_by-append (λ (e : ℕ × ℕ). if e.0 == a then e.1 else 0) (entries g n) (entry_of (n, g n))
    ∙ ap (λ k. amount_in (entries g n) a + k) (amount_entry n a (g n))))

none_so_far : (g : ℕ → ℕ) (n a : ℕ) → n ≤ a → amount_in (entries g n) a ≡ 0
none_so_far g zero a l = refl
none_so_far g (suc n) a l =
    let rest = none_so_far g n a (omega (arith, l)) in
    let apart : (n == a) ≡ false = grind (arith, nat_tests) in
    let none : cond (n == a) (g n) 0 ≡ 0 = ap (λ b. cond b (g n) 0) apart in
    omega (arith, rest, none, amount_step g n a)

-- a node is overused by no more than the row says
pub amount_of_node : (g : ℕ → ℕ) (n a : ℕ) → amount_in (entries g n) a ≤ g a
amount_of_node g zero a = omega arith
amount_of_node g (suc n) a = elim (cases_eq n a) [
  | inl e ↦
      let none = none_so_far g n a (omega (arith, e)) in
      let here : cond (n == a) (g n) 0 ≡ g n = ap (λ b. cond b (g n) 0) (eq-eqb n a e) in
      let same : g n ≡ g a = ap g e in
      omega (arith, none, here, same, amount_step g n a)
  | inr apart ↦
      let rest = amount_of_node g n a in
      let none : cond (n == a) (g n) 0 ≡ 0 = ap (λ b. cond b (g n) 0) (ne_eqb n a apart) in
      omega (arith, rest, none, amount_step g n a)
]

pub amount_bounded : (f : Fabric) (counts : List ℕ) (a : ℕ) → amount_in (row_by f counts) a ≤ get_or counts a 0
unfolding row_by
amount_bounded f counts a = let bound = amount_of_node (excess_of f counts) (length counts) a in omega (arith, bound)

-- each node of a row is a node
entry_below : (n by : ℕ) (some : Bool) → All (λ (e : ℕ × ℕ). e.0 < suc n) (cond some ((n, by) ∷ []) [])
entry_below n by true = All-cons (λ (e : ℕ × ℕ). e.0 < suc n) (n, by) [] (omega arith) (All-nil (λ (e : ℕ × ℕ). e.0 < suc n))
entry_below n by false = All-nil (λ (e : ℕ × ℕ). e.0 < suc n)

entries_below : (g : ℕ → ℕ) (n : ℕ) → All (λ (e : ℕ × ℕ). e.0 < n) (entries g n)
entries_below g zero = All-nil (λ (e : ℕ × ℕ). e.0 < 0)
entries_below g (suc n) =
    subst (All (λ (e : ℕ × ℕ). e.0 < suc n)) (sym (row_next g n) ∙ ap (entries g) (add-one n))
    (All-append (λ (e : ℕ × ℕ). e.0 < suc n) (entries g n) (entry_of (n, g n))
    (λ k d l. let h = entries_below g n k d l in omega (arith, h))
    (entry_below n (g n) (nat_lt 0 (g n))))

pub row_below : (f : Fabric) (counts : List ℕ) → All (λ (e : ℕ × ℕ). e.0 < length counts) (row_by f counts)
unfolding row_by
row_below f counts = entries_below (excess_of f counts) (length counts)

-- ---- the form of a row
ascend_more : (least n by : ℕ) (es : List Amount) → AscendFrom least es → All (λ (e : Amount). e.0 < n) es → least ≤ n → AscendFrom least (es ++ (n, by) ∷ [])
ascend_more least n by [] ascend below low = (low, tt)
ascend_more least n by (e ∷ es) ascend below low =
    let next : e.0 < n = All-head (λ (e : Amount). e.0 < n) e es below in
    (ascend.0, ascend_more (e.0 + 1) n by es ascend.1 (All-tail (λ (e : Amount). e.0 < n) e es below) (omega (arith, next)))

ascend_entry : (n by : ℕ) (es : List Amount) (some : Bool) → AscendFrom 0 es → All (λ (e : Amount). e.0 < n) es → AscendFrom 0 (es ++ cond some ((n, by) ∷ []) [])
ascend_entry n by es true ascend below = ascend_more 0 n by es ascend below (omega arith)
ascend_entry n by es false ascend below = subst (AscendFrom 0) (sym (append-nil es)) ascend

entries_ascend : (g : ℕ → ℕ) (n : ℕ) → AscendFrom 0 (entries g n)
entries_ascend g zero = tt
entries_ascend g (suc n) =
    subst (AscendFrom 0) (sym (row_next g n) ∙ ap (entries g) (add-one n))
    (ascend_entry n (g n) (entries g n) (nat_lt 0 (g n)) (entries_ascend g n) (entries_below g n))

-- what is true of each entry that there is, is true of each of a row
module _ (P : Amount → Type 0) (g : ℕ → ℕ) (each : (a : ℕ) → 1 ≤ g a → P (a, g a)) where
  entry_has : (n : ℕ) (some : Bool) → nat_lt 0 (g n) ≡ some → All P (cond some ((n, g n) ∷ []) [])
  entry_has n true e = let more : 1 ≤ g n = grind (arith, nat_tests) in All-cons P (n, g n) [] (each n more) (All-nil P)
  entry_has n false e = All-nil P

  pub entries_have : (n : ℕ) → All P (entries g n)
  entries_have zero = All-nil P
  entries_have (suc n) =
      subst (All P) (sym (row_next g n) ∙ ap (entries g) (add-one n))
      (All-append P (entries g n) (entry_of (n, g n)) (entries_have n) (entry_has n (nat_lt 0 (g n)) refl))

pub row_formed : (p : RoutingProblem) (lists : Lists) → IsRow (node_count_of p.device) (length p.nets) (row_of p lists)
unfolding row_of overuse_of
row_formed p lists =
    let g = overuse_of p lists in
    let nodes = node_count_of p.device in
    record {
      ascending = entries_ascend g nodes;
      there = entries_below g nodes;
      some = entries_have (λ e. 1 ≤ e.1) g (λ a some. some) nodes;
      few = entries_have (λ e. e.1 ≤ length p.nets) g (λ a some. omega (arith, few_uses p.nets lists a)) nodes;
    }

-- where the counts are the uses, the row is that of the lists
pub row_of_lists : (p : RoutingProblem) (lists : Lists) (counts : List ℕ) → length counts ≡ node_count_of p.device →
    ((a : ℕ) → get_or counts a 0 ≡ use_of p.nets lists a) → row_by p.device counts ≡ row_of p lists
unfolding row_by row_of
row_of_lists p lists counts size uses =
    same_entries (length counts)
    ∙ ap (λ n. filter (λ (e : ℕ × ℕ). nat_lt 0 e.1) (map (λ a. (a, overuse_of p lists a)) (numbers_below n))) size
  where
    same_node : (a : ℕ) → excess_of p.device counts a ≡ overuse_of p lists a
    same_node a = sym (overuse_counted p lists a (get_or counts a 0) (uses a))

    same_entries : (n : ℕ) → entries (excess_of p.device counts) n ≡ entries (overuse_of p lists) n
    same_entries n = ap (λ g. entries g n) (λ i a. same_node a i)

pub row_bounded : (p : RoutingProblem) (lists : Lists) (counts : List ℕ) → IsProblem p → ((a : ℕ) → get_or counts a 0 ≡ use_of p.nets lists a) →
    (a : ℕ) → amount_in (row_by p.device counts) a ≤ 65535
row_bounded p lists counts limits uses a = omega (arith, amount_bounded p.device counts a, uses a, few_uses p.nets lists a, limits.few)

-- where the counts are the uses, all nodes are overused by as much by them as by the lists
pub excess_is : (p : RoutingProblem) (lists : Lists) (counts : List ℕ) → length counts ≡ node_count_of p.device →
    ((a : ℕ) → get_or counts a 0 ≡ use_of p.nets lists a) → excess_by p.device counts ≡ excess_in p lists
unfolding excess_by excess_in
excess_is p lists counts size uses =
    ap (λ g. sum_by g (numbers_below (length counts))) (λ i a. sym (overuse_counted p lists a (get_or counts a 0) (uses a)) i)
    ∙ ap (λ n. sum_by (overuse_of p lists) (numbers_below n)) size

-- where the counts are the uses, as many nodes are overused by them as by the lists
over_alike : (n room : ℕ) → nat_lt room n ≡ nat_lt 0 (n - room)
over_alike n room = grind (arith, nat_tests)

pub overused_is : (p : RoutingProblem) (lists : Lists) (counts : List ℕ) → length counts ≡ node_count_of p.device →
    ((a : ℕ) → get_or counts a 0 ≡ use_of p.nets lists a) → overused_by p.device counts ≡ overused_in p lists
unfolding overused_by overused_in
overused_is p lists counts size uses =
    let same : (a : ℕ) → is_over p.device counts a ≡ nat_lt 0 (overuse_of p lists a) =
    λ a. over_alike (get_or counts a 0) (room_of p.device (node_at p.device a))
    ∙ ap (nat_lt 0) (sym (overuse_counted p lists a (get_or counts a 0) (uses a))) in
    same_counts (is_over p.device counts) (λ a. nat_lt 0 (overuse_of p lists a)) (length counts) (λ a l. same a)
    ∙ ap (λ n. count_by (λ a. nat_lt 0 (overuse_of p lists a)) (numbers_below n)) size
