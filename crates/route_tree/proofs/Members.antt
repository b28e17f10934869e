-- Which numbers stand among others, by the test and by the place; numbers that stand there once.
use Rattle.std.proofs.Common.{◌≡◌, ◌≢◌, ℕ, ◌<◌, ◌≤◌, ◌==◌, zero, suc, Bool, true, false, List, [], ◌∷◌, length, get_or, inl, inr, refl, sym, ap, ◌∙◌, subst, arith}
use Rattle.std.specs.Prelude.{Contains, take}
use Rattle.std.specs.List.{list_any}
use Rattle.std.specs.List.Sorted.{IsStrictlyIncreasing}
use Rattle.std.proofs.lemmas.Bool.{both_ways, cases_order, eqb-true, eq-eqb, or_cases, or_parts, false_from_ne_true}
use Rattle.std.proofs.lemmas.List.{length-map, length-take-le, get_or-map, get_or-take}
use Rattle.std.proofs.lemmas.List.Elements.{Contains-append_right, Contains-get_or}
use Rattle.std.proofs.lemmas.List.Folds.{list_any_at, list_any_none}
use Rattle.std.proofs.lemmas.List.Kept.{AllPairs-from_increasing}
use Rattle.route_tree.specs.Paths.{Pair, ends_of}
use Rattle.route_tree.specs.Legality.{is_among, has_twice}

-- ---- the place of an element that passes a test
pub some_place : {X : Type 0} (test : X → Bool) (xs : List X) (d : X) → list_any test xs ≡ true → (k : ℕ) × (k < length xs) × (test (get_or xs k d) ≡ true)
some_place test [] d e = absurd (both_ways false refl e)
some_place test (x ∷ xs) d e = elim (or_cases (test x) (list_any test xs) e) [
  | inl h ↦ (zero, omega arith, h)
  | inr h ↦ (let found = some_place test xs d h in (suc found.0, (let l = found.1 in omega arith), found.2))
]

-- ---- an element that passes a test, or none
pub one_passes : {X : Type 0} (test : X → Bool) (xs : List X) (x : X) → Contains xs x → test x ≡ true → list_any test xs ≡ true
one_passes test xs x h e = list_any_at test xs h.0 x h.1 (subst (λ y. test y ≡ true) (sym h.2) e)

pub each_fails : {X : Type 0} (test : X → Bool) (xs : List X) (x : X) → list_any test xs ≡ false → Contains xs x → test x ≡ false
each_fails test xs x none h = false_from_ne_true (test x) (λ e. both_ways (list_any test xs) none (one_passes test xs x h e))

pub none_passes : {X : Type 0} (test : X → Bool) (xs : List X) → ((x : X) → Contains xs x → test x ≡ false) → list_any test xs ≡ false
none_passes test xs fails = list_any_none test xs (λ k d l. fails (get_or xs k d) (Contains-get_or xs k d l))

-- ---- among a list
pub contains_among : (xs : List ℕ) (a : ℕ) → Contains xs a → is_among xs a ≡ true
contains_among xs a h = list_any_at (λ x. x == a) xs h.0 a h.1 (eq-eqb (get_or xs h.0 a) a h.2)

pub among_contains : (xs : List ℕ) (a : ℕ) → is_among xs a ≡ true → Contains xs a
among_contains [] a e = absurd (both_ways false refl e)
among_contains (x ∷ xs) a e = elim (or_cases (x == a) (is_among xs a) e) [
  | inl h ↦ (zero, omega arith, eqb-true x a h)
  | inr h ↦ Contains-append_right (x ∷ []) xs a (among_contains xs a h)
]

-- ---- numbers that stand in a list once
pub once_each : (xs : List ℕ) (i j : ℕ) → has_twice xs ≡ false → i < j → j < length xs → get_or xs i 0 ≢ get_or xs j 0
once_each [] i j once low high = absurd (omega arith)
once_each (x ∷ xs) i zero once low high = absurd (omega arith)
once_each (x ∷ xs) zero (suc j) once low high = λ same.
    both_ways (is_among xs x) (or_parts (is_among xs x) (has_twice xs) once).0
    (list_any_at (λ y. y == x) xs j 0 (omega arith) (eq-eqb (get_or xs j 0) x (sym same)))
once_each (x ∷ xs) (suc i) (suc j) once low high = once_each xs i j (or_parts (is_among xs x) (has_twice xs) once).1 (omega arith) (omega arith)

-- ---- the ends of pairs
pub end_at : (pairs : List Pair) (k : ℕ) → k < length pairs → get_or (ends_of pairs) k 0 ≡ (get_or pairs k (0, 0)).1
end_at pairs k l = get_or-map (λ p. p.1) pairs k (0, 0) 0 l

pub end_among : (pairs : List Pair) (k : ℕ) → k < length pairs → Contains (ends_of pairs) (get_or pairs k (0, 0)).1
end_among pairs k l = (k, omega (arith, length-map pairs (λ p. p.1)), get_or-map (λ p. p.1) pairs k (0, 0) (get_or pairs k (0, 0)).1 l)

pub end_of : (pairs : List Pair) (p : Pair) → Contains pairs p → Contains (ends_of pairs) p.1
end_of pairs p h =
    let l = h.1 in
    (h.0, omega (arith, l, length-map pairs (λ p. p.1)), get_or-map (λ p. p.1) pairs h.0 p p.1 l ∙ ap (λ (q : Pair). q.1) h.2)

pub among_ends : (pairs : List Pair) (a : ℕ) → Contains (ends_of pairs) a → (k : ℕ) × (k < length pairs) × ((get_or pairs k (0, 0)).1 ≡ a)
among_ends pairs a h =
    let within : h.0 < length pairs = let l = h.1 in omega (arith, l, length-map pairs (λ p. p.1)) in
    (h.0, within, sym (get_or-map (λ p. p.1) pairs h.0 (0, 0) a within) ∙ h.2)

pub pair_among : (pairs : List Pair) (k : ℕ) → k < length pairs → Contains pairs (get_or pairs k (0, 0))
pair_among pairs k l = Contains-get_or pairs k (0, 0) l

-- a pair before place k ends there
pub record EndsBefore (pairs : List Pair) (k a : ℕ) : Type 0 where
  pub place : ℕ
  pub before : place < k
  pub end : (get_or pairs place (0, 0)).1 ≡ a

pub ends_before : (pairs : List Pair) (k a : ℕ) → k < length pairs → is_among (ends_of (take k pairs)) a ≡ true → EndsBefore pairs k a
ends_before pairs k a l e =
    let found = among_ends (take k pairs) a (among_contains (ends_of (take k pairs)) a e) in
    let early : found.0 < k = let h = found.1 in omega (arith, h, length-take-le k pairs (let le : k < length pairs = l in omega arith)) in
    record { place = found.0; before = early; end = sym (ap (λ (p : Pair). p.1) (get_or-take k pairs found.0 (0, 0) early)) ∙ found.2 }

-- ---- numbers that ascend
pub rising : (xs : List ℕ) → IsStrictlyIncreasing xs → (i j : ℕ) → i ≤ j → j < length xs → get_or xs i 0 ≤ get_or xs j 0
rising xs up i j le l = elim (cases_order i j) [
  | inl e ↦ (let same = ap (λ k. get_or xs k 0) e in omega (arith, same))
  | inr (inl low) ↦ (let below = AllPairs-from_increasing xs up i j 0 low l in omega (arith, below))
  | inr (inr high) ↦ absurd (omega arith)
]
