-- Counts of nodes, and how many nodes are overused, when one count changes.
use Rattle.std.proofs.Common.{◌≡◌, ◌≢◌, inl, inr, ℕ, ◌+◌, ◌-◌, ◌<◌, ◌≤◌, ◌==◌, ◌^◌, zero, suc, Bool, false, nat_lt, List, [], ◌∷◌, ◌++◌, length, get_or, set, replicate, Some, refl, sym, ap, subst, ◌∙◌, arith, add-one, length-set, get_or-set_other}
use Rattle.std.specs.Prelude.{count_by, take}
use Rattle.std.proofs.lemmas.Bool.{cases_eq, eq-eqb, ne_eqb}
use Rattle.std.proofs.lemmas.Bool.Decides.{nat_tests}
use Rattle.std.proofs.lemmas.Grind.{get_or-set_at}
use Rattle.std.proofs.lemmas.List.{get_or-set_same}
use Rattle.std.proofs.lemmas.Option.{slice_get_cases}
use Rattle.std.proofs.lemmas.List.Sums.{sum_by-append, sum_by-cons, count_by-le-length}
use Rattle.std.proofs.lemmas.List.FromFn.{length-range_with_len}
use Rattle.routing_problem.specs.Fabric.{Fabric, IsFabric, numbers_below}
use Rattle.routing_problem.specs.node.Node.{Node}
use Rattle.routing_problem.specs.Nodes.{node_at, nodes_of, node_count_of}
use Rattle.routing_problem.proofs.Capacities.{some_capacity}
use Rattle.routing_problem.proofs.Ranges.{below_next}
pub use Rattle.routing_problem.proofs.Ranges.{sum_next}
use Rattle.routing_problem.proofs.Order.{node_count_below}
use Rattle.route_tree.specs.declared.tree.Row.{Row}
use Rattle.route_tree.specs.Rows.{no_row}
use Rattle.route_tree.specs.kept.Marked as tree
use Rattle.route_tree.specs.Usage.{room_of}
use Rattle.congestion_book.specs.Turns.{one_if}
use Rattle.congestion_book.specs.kept.Usage.{is_over, overused_by, times_in, AddsEach, TakesEach}
use Rattle.route_report.proofs.Counting.{zeros}

-- ---- one test of many changes
count_next : (p : ℕ → Bool) (n : ℕ) → count_by p (numbers_below (suc n)) ≡ count_by p (numbers_below n) + one_if (p n)
count_next p n =
    let more : count_by p (numbers_below n ++ n ∷ []) ≡ count_by p (numbers_below n) + count_by p (n ∷ []) = sum_by-append (λ a. one_if (p a)) (numbers_below n) (n ∷ []) in
    let last : count_by p (n ∷ []) ≡ one_if (p n) + 0 = sum_by-cons (λ a. one_if (p a)) n [] in
    let next : count_by p (numbers_below (suc n)) ≡ count_by p (numbers_below n ++ n ∷ []) =
    ap (λ k. count_by p (numbers_below k)) (sym (add-one n)) ∙ ap (count_by p) (below_next n) in
    omega (arith, next, more, last)

pub same_counts : (p q : ℕ → Bool) (n : ℕ) → ((a : ℕ) → a < n → p a ≡ q a) → count_by p (numbers_below n) ≡ count_by q (numbers_below n)
same_counts p q zero same = refl
same_counts p q (suc n) same =
    let here : one_if (p n) ≡ one_if (q n) = ap one_if (same n (omega arith)) in
    let rest = same_counts p q n (λ a l. same a (omega (arith, l))) in
    let one = count_next p n in
    let two = count_next q n in
    omega (arith, here, rest, one, two)

-- two tests that agree but at a
pub one_changes : (p q : ℕ → Bool) (n a : ℕ) → a < n → ((b : ℕ) → b ≢ a → p b ≡ q b) →
    count_by p (numbers_below n) + one_if (q a) ≡ count_by q (numbers_below n) + one_if (p a)
one_changes p q zero a l same = absurd (omega arith)
one_changes p q (suc n) a l same =
    let one = count_next p n in
    let two = count_next q n in
    elim (cases_eq a n) [
      | inl here ↦
          let rest = same_counts p q n (λ b low. same b (λ e. absurd (omega (arith, low, here, e)))) in
          let at_p : one_if (p n) ≡ one_if (p a) = ap (λ b. one_if (p b)) (sym here) in
          let at_q : one_if (q n) ≡ one_if (q a) = ap (λ b. one_if (q b)) (sym here) in
          omega (arith, rest, one, two, at_p, at_q)
      | inr apart ↦
          let rest = one_changes p q n a (omega (arith, l, apart)) same in
          let here : one_if (p n) ≡ one_if (q n) = ap one_if (same n (λ e. apart (sym e))) in
          omega (arith, rest, one, two, here)
    ]

pub none_counts : (p : ℕ → Bool) (n : ℕ) → ((a : ℕ) → p a ≡ false) → count_by p (numbers_below n) ≡ 0
none_counts p zero none = refl
none_counts p (suc n) none =
    let rest = none_counts p n none in
    let next = count_next p n in
    let here : one_if (p n) ≡ 0 = ap one_if (none n) in
    omega (arith, rest, next, here)

-- ---- the room of a node
room_there : (f : Fabric) → IsFabric f → (i : ℕ) (n : Node) → node_at f i ≡ Some n → 1 ≤ room_of f (node_at f i)
room_there f within i n e = subst (λ o. 1 ≤ room_of f o) (sym e) (some_capacity f within i n e)

pub some_room : (f : Fabric) → IsFabric f → (i : ℕ) → i < node_count_of f → 1 ≤ room_of f (node_at f i)
some_room f within i l = elim (slice_get_cases (nodes_of f) i).1 [
  | inl there ↦ room_there f within i there.0 there.2
  | inr past ↦ absurd (omega (arith, past.0, l))
]

-- ---- one count changes
module _ (f : Fabric) (counts : List ℕ) (a : ℕ) (low : a < length counts) where
  abbrev room : ℕ
  room = room_of f (node_at f a)

  over_stays : (count b : ℕ) → b ≢ a → is_over f (set counts a count) b ≡ is_over f counts b
  over_stays count b apart = ap (nat_lt (room_of f (node_at f b))) (get_or-set_other counts a b count 0 apart)

  over_here : (count : ℕ) → is_over f (set counts a count) a ≡ nat_lt room count
  over_here count = ap (nat_lt room) (get_or-set_same counts a count 0 low)

  pub overused_changes : (count : ℕ) → overused_by f (set counts a count) + one_if (nat_lt room (get_or counts a 0)) ≡ overused_by f counts + one_if (nat_lt room count)
  unfolding overused_by
  overused_changes count =
      let size = length-set counts a count in
      let change = one_changes (is_over f (set counts a count)) (is_over f counts) (length counts) a low (λ b apart. over_stays count b apart) in
      let here : one_if (is_over f (set counts a count) a) ≡ one_if (nat_lt room count) = ap one_if (over_here count) in
      let same : count_by (is_over f (set counts a count)) (numbers_below (length (set counts a count))) ≡ count_by (is_over f (set counts a count)) (numbers_below (length counts)) =
      ap (λ n. count_by (is_over f (set counts a count)) (numbers_below n)) size in
      omega (arith, change, here, same)

-- one more, which goes past the room where it was just filled
pub adds_over : (f : Fabric) (counts : List ℕ) (a : ℕ) → a < length counts →
    overused_by f (set counts a (get_or counts a 0 + 1)) ≡ overused_by f counts + one_if (room_of f (node_at f a) == get_or counts a 0)
adds_over f counts a low =
    let change = overused_changes f counts a low (get_or counts a 0 + 1) in
    grind (arith, nat_tests, change)

-- one less, which leaves the room just filled
pub takes_over : (f : Fabric) (counts : List ℕ) (a : ℕ) → a < length counts → 1 ≤ get_or counts a 0 →
    overused_by f (set counts a (get_or counts a 0 - 1)) + one_if (room_of f (node_at f a) == get_or counts a 0 - 1) ≡ overused_by f counts
takes_over f counts a low used =
    let change = overused_changes f counts a low (get_or counts a 0 - 1) in
    grind (arith, nat_tests, change)

pub takes_within : (f : Fabric) (counts : List ℕ) (a : ℕ) → a < length counts → 1 ≤ get_or counts a 0 →
    one_if (room_of f (node_at f a) == get_or counts a 0 - 1) ≤ overused_by f counts
takes_within f counts a low used = let change = takes_over f counts a low used in omega (arith, change)

pub overused_few : (f : Fabric) → IsFabric f → (counts : List ℕ) → length counts ≡ node_count_of f → overused_by f counts < 2 ^ 23
unfolding overused_by
overused_few f within counts size =
    let few = count_by-le-length (is_over f counts) (numbers_below (length counts)) in
    let count = length-range_with_len 0 (length counts) in
    let below = node_count_below f within in
    omega (arith, few, count, below, size)

zero_is_not_over : (f : Fabric) (nodes a : ℕ) → is_over f (replicate nodes 0) a ≡ false
zero_is_not_over f nodes a = let none = zeros nodes a in grind (arith, nat_tests, none)

pub none_overused : (f : Fabric) (nodes : ℕ) → overused_by f (replicate nodes 0) ≡ 0
unfolding overused_by
none_overused f nodes = none_counts (is_over f (replicate nodes 0)) (length (replicate nodes 0)) (zero_is_not_over f nodes)

-- ---- the nodes of a tree, one by one
node_next : (rows : List Row) (k : ℕ) → k < length rows → tree.nodes_of (take (suc k) rows) ≡ tree.nodes_of (take k rows) ++ (get_or rows k no_row).node ∷ []
node_next [] k l = absurd (omega arith)
node_next (r ∷ rs) zero l = refl
node_next (r ∷ rs) (suc k) l = ap (λ ns. r.node ∷ ns) (node_next rs k (omega arith))

module _ (rows : List Row) (k : ℕ) (low : k < length rows) where
  abbrev pub next : ℕ
  next = (get_or rows k no_row).node

  pub times_next : (a : ℕ) → times_in (tree.nodes_of (take (k + 1) rows)) a ≡ times_in (tree.nodes_of (take k rows)) a + one_if (next == a)
  times_next a =
      let more : times_in (tree.nodes_of (take k rows) ++ next ∷ []) a ≡ times_in (tree.nodes_of (take k rows)) a + times_in (next ∷ []) a =
      sum_by-append (λ b. one_if (b == a)) (tree.nodes_of (take k rows)) (next ∷ []) in
      let last : times_in (next ∷ []) a ≡ one_if (next == a) + 0 = sum_by-cons (λ b. one_if (b == a)) next [] in
      let step : times_in (tree.nodes_of (take (k + 1) rows)) a ≡ times_in (tree.nodes_of (take k rows) ++ next ∷ []) a =
      ap (λ n. times_in (tree.nodes_of (take n rows)) a) (add-one k) ∙ ap (λ ns. times_in ns a) (node_next rows k low) in
      omega (arith, more, last, step)

pub times_within : (k : ℕ) (rows : List Row) (a : ℕ) → times_in (tree.nodes_of (take k rows)) a ≤ times_in (tree.nodes_of rows) a
times_within zero rows a = omega arith
times_within (suc k) [] a = omega arith
times_within (suc k) (r ∷ rs) a =
    let rest = times_within k rs a in
    let less : times_in (r.node ∷ tree.nodes_of (take k rs)) a ≡ one_if (r.node == a) + times_in (tree.nodes_of (take k rs)) a =
    sum_by-cons (λ b. one_if (b == a)) r.node (tree.nodes_of (take k rs)) in
    let more : times_in (r.node ∷ tree.nodes_of rs) a ≡ one_if (r.node == a) + times_in (tree.nodes_of rs) a =
    sum_by-cons (λ b. one_if (b == a)) r.node (tree.nodes_of rs) in
    omega (arith, rest, less, more)

module _ (old now : List ℕ) (rows : List Row) (k : ℕ) (low : k < length rows) where
  here : one_if (next rows k low == next rows k low) ≡ 1
  here = ap one_if (eq-eqb (next rows k low) (next rows k low) refl)

  -- the next node is used once more, and there is room for it
  pub room_left : AddsEach old (tree.nodes_of (take k rows)) now → ((a : ℕ) → get_or old a 0 + times_in (tree.nodes_of rows) a ≤ 65535) →
      get_or now (next rows k low) 0 < 65535
  room_left so_far room =
      let a = next rows k low in
      omega (arith, here, so_far.each a, room a, times_next rows k low a, times_within (k + 1) rows a)

  pub use_left : TakesEach old (tree.nodes_of (take k rows)) now → ((a : ℕ) → times_in (tree.nodes_of rows) a ≤ get_or old a 0) →
      1 ≤ get_or now (next rows k low) 0
  use_left so_far used =
      let a = next rows k low in
      omega (arith, here, so_far.each a, used a, times_next rows k low a, times_within (k + 1) rows a)

  pub takes_next : (new : List ℕ) → TakesEach old (tree.nodes_of (take k rows)) now → next rows k low < length now →
      1 ≤ get_or now (next rows k low) 0 → new ≡ set now (next rows k low) (get_or now (next rows k low) 0 - 1) →
      TakesEach old (tree.nodes_of (take (k + 1) rows)) new
  takes_next new so_far there used is =
      let n = next rows k low in
      let count = get_or now n 0 - 1 in
      record {
        size = ap length is ∙ (length-set now n count ∙ so_far.size);
        each = λ a.
            let each = so_far.each a in
            let times = times_next rows k low a in
            let same : get_or new a 0 ≡ get_or (set now n count) a 0 = ap (λ cs. get_or cs a 0) is in
            elim (cases_eq a n) [
              | inl e ↦
                  let at : get_or (set now n count) a 0 ≡ count = get_or-set_at now n a count 0 e there in
                  let one : one_if (n == a) ≡ 1 = ap one_if (eq-eqb n a (sym e)) in
                  let before : get_or now a 0 ≡ get_or now n 0 = ap (λ b. get_or now b 0) e in
                  omega (arith, each, times, same, at, one, before, used)
              | inr apart ↦
                  let kept : get_or (set now n count) a 0 ≡ get_or now a 0 = get_or-set_other now n a count 0 apart in
                  let none : one_if (n == a) ≡ 0 = ap one_if (ne_eqb n a (λ e. apart (sym e))) in
                  omega (arith, each, times, same, kept, none)
            ];
      }
