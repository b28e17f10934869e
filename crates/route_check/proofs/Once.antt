-- Pairs of which no two end in one node, and none in the source; what look-ups of their ends and of
-- sinks say.
use Rattle.std.proofs.Common.{◌≡◌, ◌≢◌, ℕ, ◌<◌, ◌≤◌, ◌==◌, true, false, List, length, get_or, Option, Some, Result, Ok, Err, inl, inr, sym, ◌∙◌, subst, arith}
use Rattle.std.specs.Prelude.{Contains, MatchResult, is_ok}
use Rattle.std.specs.Ordering.{nat_cmp}
use Rattle.std.specs.List.Sorted.{IsBinarySearchResult, IsStrictlyIncreasing}
use Rattle.std.proofs.lemmas.Bool.{both_ways, cases_lt, cases_order, eq-eqb, false_from_ne_true, or_parts}
use Rattle.std.proofs.lemmas.List.{length-map}
use Rattle.std.proofs.lemmas.List.Elements.{at_from_Contains}
use Rattle.std.proofs.lemmas.List.Folds.{list_any_at}
use Rattle.std.proofs.lemmas.List.Sorted.{searched}
use Rattle.route_tree.specs.Paths.{Pair, ends_of}
use Rattle.route_tree.specs.Legality.{is_among, has_twice}
use Rattle.route_tree.specs.Faults.{reaches_twice}
use Rattle.route_tree.proofs.Members.{among_contains, contains_among, end_among, end_at, once_each, rising}
use Rattle.route_check.specs.kept.Ends.{end_in, IsRowOf}

module _ (source : ℕ) (pairs : List Pair) (once : reaches_twice source pairs ≡ false) where
  pub not_source : (k : ℕ) → k < length pairs → end_in pairs k ≢ source
  not_source k l = λ same.
      both_ways (is_among (ends_of pairs) source) (or_parts (is_among (ends_of pairs) source) (has_twice (ends_of pairs)) once).0
      (contains_among (ends_of pairs) source (subst (Contains (ends_of pairs)) same (end_among pairs k l)))

  differ : (i j : ℕ) → i < j → j < length pairs → end_in pairs i ≢ end_in pairs j
  differ i j low high = λ same.
      once_each (ends_of pairs) i j (or_parts (is_among (ends_of pairs) source) (has_twice (ends_of pairs)) once).1 low
      (omega (arith, high, length-map pairs (λ p. p.1)))
      (end_at pairs i (omega arith) ∙ same ∙ sym (end_at pairs j high))

  pub same_row : (i j : ℕ) → i < length pairs → j < length pairs → end_in pairs i ≡ end_in pairs j → i ≡ j
  same_row i j l m same = elim (cases_order i j) [
    | inl e ↦ e
    | inr (inl low) ↦ absurd (differ i j low m same)
    | inr (inr low) ↦ absurd (differ j i low l (sym same))
  ]

-- a row of a node tells that a pair ends there
pub some_is : (pairs : List Pair) (a : ℕ) (r : Option ℕ) (k : ℕ) → IsRowOf pairs a r → r ≡ Some k → is_among (ends_of pairs) a ≡ true
some_is pairs a r k row e =
    let is = subst (IsRowOf pairs a) e row in
    contains_among (ends_of pairs) a (subst (Contains (ends_of pairs)) is.1 (end_among pairs k is.0))

-- numbers that ascend, and what a search among them says
found_by : (xs : List ℕ) (a : ℕ) (r : Result ℕ ℕ) →
    MatchResult r (λ i. (i < length xs) × (get_or xs i 0 ≡ a)) (λ i. (i ≤ length xs) × ((k : ℕ) → k < i → get_or xs k 0 < a) ×
    ((k : ℕ) → i ≤ k → k < length xs → a < get_or xs k 0)) →
    is_ok r ≡ is_among xs a
found_by xs a (Ok i) is = sym (list_any_at (λ x. x == a) xs i 0 is.0 (eq-eqb (get_or xs i 0) a is.1))
found_by xs a (Err i) is = sym (false_from_ne_true (is_among xs a) (λ e.
    let there = at_from_Contains xs a (among_contains xs a e) in
    let l = there.1 in
    let same = there.2 0 in
    elim (cases_lt there.0 i) [
      | inl before ↦ (let less = is.1 there.0 before in omega (arith, less, same))
      | inr behind ↦ (let more = is.2 there.0 behind l in omega (arith, more, same))
    ]))

pub found_is : (xs : List ℕ) (a : ℕ) (r : Result ℕ ℕ) → IsStrictlyIncreasing xs → IsBinarySearchResult (λ y. nat_cmp y a) xs r → is_ok r ≡ is_among xs a
found_is xs a r up is = found_by xs a r (searched xs a r is (rising xs up))
