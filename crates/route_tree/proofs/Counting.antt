-- Counting nodes, one by one.
use Rattle.std.proofs.Common.{◌≡◌, ℕ, ◌+◌, ◌<◌, ◌==◌, Bool, true, false, cond, inl, inr, List, [], ◌∷◌, ◌++◌, length, get_or, set, refl, sym, ap, ◌∙◌, subst, arith}
use Rattle.std.specs.Prelude.{count_by}
use Rattle.std.proofs.lemmas.Bool.{cases_eq, eq-eqb, ne_eqb}
use Rattle.std.proofs.lemmas.List.{get_or-set_same, get_or-set_other, length-set}
use Rattle.std.proofs.lemmas.List.Sums.{sum_by-append, sum_by-cons}
use Rattle.route_tree.specs.kept.Counting.{Counts}

pub one_more : (a b : ℕ) (t : Bool) → (b == a) ≡ t → count_by (λ x. x == a) (b ∷ []) ≡ cond t 1 0
one_more a b t e = sum_by-cons (λ x. cond (x == a) 1 0) b [] ∙ ap (λ t. cond t 1 0 + 0) e ∙ closed t
  where
    closed : (t : Bool) → cond t 1 0 + 0 ≡ cond t 1 0
    closed true = refl
    closed false = refl

pub counts_one : (counts : List ℕ) (node : ℕ) → node < length counts → Counts counts (node ∷ []) (set counts node (get_or counts node 0 + 1))
counts_one counts node l = record {
  size = length-set counts node (get_or counts node 0 + 1);
  each = λ a. elim (cases_eq a node) [
    | inl same ↦ (
        let here = get_or-set_same counts node (get_or counts node 0 + 1) 0 l in
        subst (λ i. get_or (set counts node (get_or counts node 0 + 1)) i 0 ≡ get_or counts i 0 + count_by (λ x. x == i) (node ∷ [])) (sym same)
        (here ∙ ap (λ k. get_or counts node 0 + k) (sym (one_more node node true (eq-eqb node node refl)))))
    | inr apart ↦ (
        let none = one_more a node false (ne_eqb node a (λ e. apart (sym e))) in
        let kept = get_or-set_other counts node a (get_or counts node 0 + 1) 0 apart in
        omega (arith, none, kept))
  ];
}

pub counts_then : (a b c : List ℕ) (xs ys : List ℕ) → Counts a xs b → Counts b ys c → Counts a (xs ++ ys) c
counts_then a b c xs ys f g = record {
  size = g.size ∙ f.size;
  each = λ n.
      let first = f.each n in
      let second = g.each n in
      let all = sum_by-append (λ x. cond (x == n) 1 0) xs ys in
      omega (arith, first, second, all);
}
