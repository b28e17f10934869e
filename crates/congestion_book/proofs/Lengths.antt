-- How long the nets of recorded trees are.
use Rattle.std.proofs.Common.{◌≡◌, ℕ, ◌+◌, ◌*◌, ◌^◌, ◌<◌, ◌≤◌, ◌==◌, inl, inr, zero, suc, true, false, if◌then◌else◌, List, [], ◌∷◌, length, drop, drop-cons, get_or, All, refl, sym, ap, ap₂, subst, ◌∙◌, arith, add-one}
use Rattle.std.specs.List.{sum_by}
use Rattle.std.proofs.lemmas.Bool.{cases_eq, eq-eqb, ne_eqb}
use Rattle.std.proofs.lemmas.List.Elements.{All-head, All-tail, All-nil, All-cons}
use Rattle.std.proofs.lemmas.List.Sums.{sum_by-cons}
use native.Mathlib.Nat.{zero-mul, one-mul, add-mul}
use Rattle.routing_problem.specs.Fabric.{Fabric, IsFabric, numbers_below}
use Rattle.routing_problem.specs.Nodes.{node_count_of}
use Rattle.routing_problem.specs.Problems.{RoutingProblem, net_in}
use Rattle.route_tree.specs.declared.tree.Row.{Row}
use Rattle.route_tree.specs.Rows.{no_row}
use Rattle.route_tree.specs.kept.Marked.{nodes_of}
use Rattle.route_tree.specs.Usage.{use_by, Lists, list_in}
use Rattle.route_report.specs.Wirelength.{places_at, wirelength_of, wirelengths_of}
use Rattle.route_report.proofs.Sums.{length_short}
use Rattle.route_report.proofs.Totals.{sums_alike, sums_both, sum_mapped, net_is}
use Rattle.route_report.proofs.ChannelTotals.{sums_zero, one_picked}
use Rattle.congestion_book.specs.Turns.{one_if}
use Rattle.congestion_book.specs.Recorded.{wirelength_in}
use Rattle.congestion_book.specs.kept.Usage.{times_in}

-- ---- row by row
pub places_next : (g : Row → ℕ) (rows : List Row) (k : ℕ) → k < length rows → sum_by g (drop k rows) ≡ g (get_or rows k no_row) + sum_by g (drop (k + 1) rows)
places_next g rows k low =
    ap (sum_by g) (drop-cons rows k no_row low) ∙ sum_by-cons g (get_or rows k no_row) (drop (suc k) rows)
    ∙ ap (λ j. g (get_or rows k no_row) + sum_by g (drop j rows)) (sym (add-one k))

pub places_past : (g : Row → ℕ) (rows : List Row) (k : ℕ) → length rows ≤ k → sum_by g (drop k rows) ≡ 0
places_past g [] zero all = refl
places_past g [] (suc k) all = refl
places_past g (r ∷ rs) zero all = absurd (omega (arith, all))
places_past g (r ∷ rs) (suc k) all = places_past g rs k (omega (arith, all))

-- ---- what a list adds up to, by how often each number stands in it
picked : (g : ℕ → ℕ) (x a : ℕ) → one_if (x == a) * g a ≡ (if x == a then g x else 0)
picked g x a = elim (cases_eq x a) [
  | inl same ↦ (
      let is : (x == a) ≡ true = eq-eqb x a same in
      ap (λ b. one_if b * g a) is ∙ one-mul (g a) ∙ ap g (sym same) ∙ sym (ap (λ b. if b then g x else 0) is))
  | inr apart ↦ (
      let is : (x == a) ≡ false = ne_eqb x a apart in
      ap (λ b. one_if b * g a) is ∙ zero-mul (g a) ∙ sym (ap (λ b. if b then g x else 0) is))
]

times_more : (g : ℕ → ℕ) (x : ℕ) (xs : List ℕ) (a : ℕ) → times_in (x ∷ xs) a * g a ≡ (if x == a then g x else 0) + times_in xs a * g a
times_more g x xs a =
    ap (λ k. k * g a) (sum_by-cons (λ b. one_if (b == a)) x xs) ∙ add-mul (one_if (x == a)) (times_in xs a) (g a)
    ∙ ap (λ k. k + times_in xs a * g a) (picked g x a)

by_times : (g : ℕ → ℕ) (n : ℕ) (xs : List ℕ) → All (λ a. a < n) xs → sum_by (λ a. times_in xs a * g a) (numbers_below n) ≡ sum_by g xs
by_times g n [] there = sums_alike (λ a. times_in [] a * g a) (λ a. 0) n (λ a low. zero-mul (g a)) ∙ sums_zero n
by_times g n (x ∷ xs) there =
    sums_alike (λ a. times_in (x ∷ xs) a * g a) (λ a. (if x == a then g x else 0) + times_in xs a * g a) n (λ a low. times_more g x xs a)
    ∙ sym (sums_both (λ a. if x == a then g x else 0) (λ a. times_in xs a * g a) n)
    ∙ ap₂ (λ u v. u + v) (one_picked x n (g x) (All-head (λ a. a < n) x xs there)) (by_times g n xs (All-tail (λ a. a < n) x xs there))
    ∙ sym (sum_by-cons g x xs)

-- ---- the nodes of rows
by_nodes : (g : ℕ → ℕ) (rows : List Row) → sum_by g (nodes_of rows) ≡ sum_by (λ r. g r.node) rows
by_nodes g [] = refl
by_nodes g (r ∷ rs) =
    sum_by-cons g r.node (nodes_of rs) ∙ ap (λ k. g r.node + k) (by_nodes g rs) ∙ sym (sum_by-cons (λ (r : Row). g r.node) r rs)

nodes_there : (n : ℕ) (rows : List Row) → All (λ r. r.node < n) rows → All (λ a. a < n) (nodes_of rows)
nodes_there n [] there = All-nil (λ a. a < n)
nodes_there n (r ∷ rs) there =
    All-cons (λ a. a < n) r.node (nodes_of rs) (All-head (λ (r : Row). r.node < n) r rs there)
    (nodes_there n rs (All-tail (λ (r : Row). r.node < n) r rs there))

-- ---- the places of the rows that a net uses are its wirelength
module _ (p : RoutingProblem) (lists : Lists) (i : ℕ) (rows : List Row)
    (uses : (a : ℕ) → use_by (net_in p.nets i) (list_in lists i) a ≡ times_in (nodes_of rows) a) (there : All (λ r. r.node < node_count_of p.device) rows) where
  long : sum_by (λ r. places_at p.device r.node) rows ≡ wirelength_of p lists i
  long =
      let g = places_at p.device in
      let nodes = node_count_of p.device in
      sym (net_is p lists i
      ∙ sums_alike (λ a. use_by (net_in p.nets i) (list_in lists i) a * g a) (λ a. times_in (nodes_of rows) a * g a) nodes
      (λ a low. ap (λ k. k * g a) (uses a))
      ∙ by_times g nodes (nodes_of rows) (nodes_there nodes rows there)
      ∙ by_nodes g rows)

  pub rows_long : (f : Fabric) → f ≡ p.device → sum_by (λ r. places_at f r.node) rows ≡ wirelength_of p lists i
  rows_long f is = ap (λ f. sum_by (λ (r : Row). places_at f r.node) rows) is ∙ long

  pub rows_short : (f : Fabric) → f ≡ p.device → IsFabric p.device → sum_by (λ r. places_at f r.node) rows ≤ 2 ^ 40
  rows_short f is within = subst (λ k. k ≤ 2 ^ 40) (sym (rows_long f is)) (length_short p lists i within)

-- ---- all nets
pub lengths_all : (p : RoutingProblem) (lists : Lists) → sum_by (wirelength_of p lists) (numbers_below (length p.nets)) ≡ wirelength_in p lists
unfolding wirelength_in wirelengths_of
lengths_all p lists = sym (sum_mapped (wirelength_of p lists) (numbers_below (length p.nets)))
