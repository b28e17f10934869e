-- The nodes that a net covers, in order.
use Rattle.std.proofs.Common.{◌≡◌, ℕ, ◌<◌, ◌≤◌, ◌==◌, zero, suc, Bool, true, false, cond, eqb, inl, inr, None, List, [], ◌∷◌, ◌++◌, length, get_or, All, refl, sym, ap, subst, ◌∙◌, arith, add-one}
use Rattle.std.specs.Prelude.{◌&&◌, ◌||◌, nat_lt}
use Rattle.std.specs.List.{filter, list_any}
use Rattle.std.specs.List.Retain.{DiffersFromLast, IsFiltered}
use Rattle.std.specs.List.Sorted.{IsSorted, IsPermutation}
use Rattle.std.specs.Ordering.{nat_cmp}
use Rattle.std.proofs.Math.Bool.{and-or_distrib_left}
use Rattle.std.proofs.lemmas.Bool.{cases_eq, eq-eqb, ne_eqb, lt-ltb, ltb-true}
use Rattle.std.proofs.lemmas.List.Elements.{filter-append}
use Rattle.std.proofs.lemmas.List.Folds.{list_any-append}
use Rattle.routing_problem.specs.Fabric.{numbers_below}
use Rattle.routing_problem.proofs.Ranges.{filter_next}
use Rattle.routing_problem.proofs.Ascending.{all_kept, in_order}
use Rattle.route_tree.specs.Paths.{Pair, ends_of}
use Rattle.route_tree.specs.Legality.{is_among}
use Rattle.routing_problem.specs.Problems.{Net}
use Rattle.route_tree.specs.Usage.{covers, covers_by, Lists, list_in}

-- ---- two tests that agree below a number
pub same_filter : (p q : ℕ → Bool) (n : ℕ) → ((a : ℕ) → a < n → p a ≡ q a) → filter p (numbers_below n) ≡ filter q (numbers_below n)
same_filter p q zero same = refl
same_filter p q (suc n) same =
    let rest = same_filter p q n (λ a l. same a (omega (arith, l))) in
    let here : cond (p n) (n ∷ []) [] ≡ cond (q n) (n ∷ []) [] = ap (λ b. cond b (n ∷ []) []) (same n (omega arith)) in
    ap (λ k. filter p (numbers_below k)) (sym (add-one n)) ∙ filter_next p n ∙ ap (λ xs. xs ++ cond (p n) (n ∷ []) []) rest
    ∙ ap (λ xs. filter q (numbers_below n) ++ xs) here
    ∙ sym (ap (λ k. filter q (numbers_below k)) (sym (add-one n)) ∙ filter_next q n)

-- ---- a number is among those of a list that pass a test
any_first : (q : ℕ → Bool) (x : ℕ) (xs : List ℕ) (b : Bool) → list_any q (cond b (x ∷ xs) xs) ≡ ((b && q x) || list_any q xs)
any_first q x xs true = refl
any_first q x xs false = refl

tests_alike : (count i x : ℕ) → (nat_lt x count && eqb i x) ≡ (nat_lt i count && x == i)
tests_alike count i x = elim (cases_eq x i) [
  | inl same ↦ rw (same, eq-eqb i i refl) refl
  | inr apart ↦ rw (ne_eqb x i apart, ne_eqb i x (λ e. apart (sym e))) (none (nat_lt x count) (nat_lt i count))
]
  where
    none : (a b : Bool) → (a && false) ≡ (b && false)
    none true true = refl
    none true false = refl
    none false true = refl
    none false false = refl

among_none : (t : Bool) → false ≡ (t && false)
among_none true = refl
among_none false = refl

among_kept : (count i : ℕ) (xs : List ℕ) → list_any (eqb i) (filter (λ a. nat_lt a count) xs) ≡ (nat_lt i count && is_among xs i)
among_kept count i [] = among_none (nat_lt i count)
among_kept count i (x ∷ xs) =
    any_first (eqb i) x (filter (λ a. nat_lt a count) xs) (nat_lt x count)
    ∙ ap (λ b. (nat_lt x count && eqb i x) || b) (among_kept count i xs)
    ∙ ap (λ b. b || (nat_lt i count && is_among xs i)) (tests_alike count i x)
    ∙ sym (and-or_distrib_left (nat_lt i count) (x == i) (is_among xs i))

kept_low : (count : ℕ) (xs : List ℕ) → All (λ a. a < count) (filter (λ a. nat_lt a count) xs)
kept_low count xs = all_kept (λ a. nat_lt a count) (λ a. a < count) xs (λ k d l e. ltb-true (get_or xs k d) count e)

swapped : (t u r : Bool) → (t && (u || r)) ≡ ((t && r) || (t && (u || false)))
swapped true true true = refl
swapped true true false = refl
swapped true false true = refl
swapped true false false = refl
swapped false u r = refl

covered_of : (count source : ℕ) (pairs : List Pair) (i : ℕ) → (nat_lt i count && covers source pairs i)
    ≡ list_any (eqb i) (filter (λ a. nat_lt a count) (ends_of pairs) ++ filter (λ a. nat_lt a count) (source ∷ []))
unfolding covers
covered_of count source pairs i =
    swapped (nat_lt i count) (source == i) (is_among (ends_of pairs) i)
    ∙ sym (list_any-append (eqb i) (filter (λ a. nat_lt a count) (ends_of pairs)) (filter (λ a. nat_lt a count) (source ∷ []))
    ∙ ap (λ b. b || list_any (eqb i) (filter (λ a. nat_lt a count) (source ∷ []))) (among_kept count i (ends_of pairs))
    ∙ ap (λ b. (nat_lt i count && is_among (ends_of pairs) i) || b) (among_kept count i (source ∷ [])))

-- the source and the ends below a count, sorted and each once, are the nodes that are covered
pub covered_in_order : (count source : ℕ) (pairs : List Pair) (first xs ys zs : List ℕ) → first ≡ filter (λ a. nat_lt a count) (ends_of pairs)
    → xs ≡ first ++ filter (λ a. nat_lt a count) (source ∷ [])
    → IsPermutation xs ys → IsSorted nat_cmp ys → IsFiltered (DiffersFromLast eqb) [] ys zs → zs ≡ filter (covers source pairs) (numbers_below count)
covered_in_order count source pairs first xs ys zs begin whole moved sorted kept =
    let is : xs ≡ filter (λ a. nat_lt a count) (ends_of pairs) ++ filter (λ a. nat_lt a count) (source ∷ []) = whole ∙ ap (λ ns. ns ++ filter (λ a. nat_lt a count) (source ∷ [])) begin in
    in_order (λ i. nat_lt i count && covers source pairs i) count (filter (λ a. nat_lt a count) (ends_of pairs) ++ filter (λ a. nat_lt a count) (source ∷ [])) ys zs
    (subst (λ ns. All (λ a. a < count) ns) (filter-append (λ a. nat_lt a count) (ends_of pairs) (source ∷ [])) (kept_low count (ends_of pairs ++ source ∷ [])))
    (covered_of count source pairs) (subst (λ ns. IsPermutation ns ys) is moved) sorted kept
    ∙ same_filter (λ i. nat_lt i count && covers source pairs i) (covers source pairs) count (λ a l. ap (λ b. b && covers source pairs a) (lt-ltb a count l))

-- the ends of pairs below a count, sorted and each once, are the nodes at which pairs end
pub ended_in_order : (count : ℕ) (pairs : List Pair) (xs ys zs : List ℕ) → xs ≡ filter (λ a. nat_lt a count) (ends_of pairs)
    → IsPermutation xs ys → IsSorted nat_cmp ys → IsFiltered (DiffersFromLast eqb) [] ys zs → zs ≡ filter (is_among (ends_of pairs)) (numbers_below count)
ended_in_order count pairs xs ys zs is moved sorted kept =
    in_order (λ i. nat_lt i count && is_among (ends_of pairs) i) count (filter (λ a. nat_lt a count) (ends_of pairs)) ys zs
    (kept_low count (ends_of pairs)) (λ i. sym (among_kept count i (ends_of pairs))) (subst (λ ns. IsPermutation ns ys) is moved) sorted kept
    ∙ same_filter (λ i. nat_lt i count && is_among (ends_of pairs) i) (is_among (ends_of pairs)) count (λ a l. ap (λ b. b && is_among (ends_of pairs) a) (lt-ltb a count l))

-- a net without a list covers nothing
pub none_covered : (n : Net) (ns : List ℕ) → filter (covers_by n None) ns ≡ []
none_covered n [] = refl
none_covered n (a ∷ ns) = none_covered n ns

-- past the last entry there is no list
pub past_lists : (lists : Lists) (i : ℕ) → length lists ≤ i → list_in lists i ≡ None
past_lists [] i l = refl
past_lists (x ∷ xs) zero l = absurd (omega (arith, l))
past_lists (x ∷ xs) (suc i) l = past_lists xs i (omega (arith, l))
