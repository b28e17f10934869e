-- Many nets and few nodes: where each of so many nets covers one of some nodes, these are used as
-- often together.
use Rattle.std.proofs.Common.{◌≡◌, ℕ, ◌+◌, ◌<◌, ◌≤◌, zero, suc, Bool, true, cond, List, [], ◌∷◌, length, inl, inr, refl, ap, arith}
use Rattle.std.specs.Prelude.{count_by}
use Rattle.std.specs.List.{sum_by, list_any}
use Rattle.std.proofs.lemmas.Bool.{cases_Bool}
use Rattle.std.proofs.lemmas.List.Sums.{sum_by-cons}
use Rattle.rr_graph.specs.Problems.{Net, net_in}
use Rattle.route_tree.specs.Usage.{covers_by, use_by, use_of, Lists, list_in}
use Rattle.width_bound.proofs.Lists.{any_found, one_counted}

sum_both : {X : Type 0} (g h : X → ℕ) (xs : List X) → sum_by (λ x. g x + h x) xs ≡ sum_by g xs + sum_by h xs
sum_both g h [] = refl
sum_both g h (x ∷ xs) = omega (arith, sum_by-cons (λ y. g y + h y) x xs, sum_by-cons g x xs, sum_by-cons h x xs, sum_both g h xs)

-- a net that covers one of the nodes uses them once at least
some_use : (n : Net) (nets : List Net) (test : Net → Bool) (used : ℕ) → (test n ≡ true → 1 ≤ used) → (rest : ℕ) → count_by test nets ≤ rest → count_by test (n ∷ nets) ≤ used + rest
some_use n nets test used here rest few =
    let first = sum_by-cons (λ m. cond (test m) 1 0) n nets in
    elim (cases_Bool (test n)) [
      | inl passes ↦ (let one = here passes in let w = ap (λ b. cond b (suc zero) zero) passes in omega (arith, first, one, w, few))
      | inr fails ↦ (let w = ap (λ b. cond b (suc zero) zero) fails in omega (arith, first, w, few))
    ]

pub uses_counted : (test : Net → Bool) (nodes : List ℕ) (nets : List Net) (lists : Lists) → length lists ≡ length nets →
    ((i : ℕ) → i < length nets → test (net_in nets i) ≡ true → list_any (covers_by (net_in nets i) (list_in lists i)) nodes ≡ true) →
    count_by test nets ≤ sum_by (use_of nets lists) nodes
uses_counted test nodes [] lists e h = omega arith
uses_counted test nodes (n ∷ nets) [] e h = absurd (omega arith)
uses_counted test nodes (n ∷ nets) (l ∷ lists) e h =
    let both = sum_both (use_by n l) (use_of nets lists) nodes in
    let rest = uses_counted test nodes nets lists (omega arith) (λ i m. h (suc i) (omega arith)) in
    let here : test n ≡ true → 1 ≤ sum_by (use_by n l) nodes = λ t.
    let found = any_found (covers_by n l) nodes (h zero (omega arith) t) in
    one_counted (covers_by n l) nodes found.0 found.1 found.2 in
    let all = some_use n nets test (sum_by (use_by n l) nodes) here (sum_by (use_of nets lists) nodes) rest in
    omega (arith, both, all)
