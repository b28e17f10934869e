-- Numbers that stand in a list twice: by their places, by how often they stand there, and in
-- another order.
use Rattle.std.proofs.Common.{◌≡◌, ℕ, ◌+◌, ◌<◌, ◌≤◌, ◌==◌, zero, suc, Bool, true, false, cond, List, [], ◌∷◌, length, get_or, inl, inr, refl, sym, ap, ◌∙◌, arith}
use Rattle.std.specs.Prelude.{count_by}
use Rattle.std.specs.List.Sorted.{IsPermutation}
use Rattle.std.proofs.lemmas.Bool.{both_ways, eq-eqb, false_from_ne_true, or_cases, true_from_ne_false}
use Rattle.std.proofs.lemmas.List.Elements.{at_from_Contains}
use Rattle.std.proofs.lemmas.List.Sorted.{IsPermutation-sym, sum_by-IsPermutation}
use Rattle.std.proofs.lemmas.List.Sums.{sum_by-cons}
use Rattle.route_tree.specs.Legality.{is_among, has_twice}
use Rattle.route_tree.proofs.LegalLists.{count_once}
use Rattle.route_tree.proofs.Members.{among_contains}

-- two places of one number
pub record TwoPlaces (xs : List ℕ) : Type 0 where
  pub first : ℕ
  pub second : ℕ
  pub apart : first < second
  pub within : second < length xs
  pub same : get_or xs first 0 ≡ get_or xs second 0

pub two_places : (xs : List ℕ) → has_twice xs ≡ true → TwoPlaces xs
two_places [] e = absurd (both_ways false refl e)
two_places (x ∷ xs) e = elim (or_cases (is_among xs x) (has_twice xs) e) [
  | inl h ↦ (
      let there = at_from_Contains xs x (among_contains xs x h) in
      let l = there.1 in
      record { first = zero; second = suc there.0; apart = omega arith; within = omega arith; same = sym (there.2 0) })
  | inr h ↦ (
      let t = two_places xs h in
      let a = t.apart in
      let l = t.within in
      record { first = suc t.first; second = suc t.second; apart = omega arith; within = omega arith; same = t.same })
]

-- a number that stands there twice counts two
counted : (a x : ℕ) (xs : List ℕ) → count_by (λ y. y == a) (x ∷ xs) ≡ cond (x == a) 1 0 + count_by (λ y. y == a) xs
counted a x xs = sum_by-cons (λ y. cond (y == a) 1 0) x xs

one_counted : (a : ℕ) (xs : List ℕ) → is_among xs a ≡ true → 1 ≤ count_by (λ y. y == a) xs
one_counted a [] e = absurd (both_ways false refl e)
one_counted a (x ∷ xs) e = elim (or_cases (x == a) (is_among xs a) e) [
  | inl h ↦ (let c = counted a x xs ∙ ap (λ b. cond b 1 0 + count_by (λ y. y == a) xs) h in omega (arith, c))
  | inr h ↦ (let c = counted a x xs in let more = one_counted a xs h in omega (arith, c, more))
]

two_counted : (xs : List ℕ) → has_twice xs ≡ true → (a : ℕ) × (2 ≤ count_by (λ y. y == a) xs)
two_counted [] e = absurd (both_ways false refl e)
two_counted (x ∷ xs) e = elim (or_cases (is_among xs x) (has_twice xs) e) [
  | inl h ↦ (
      let c = counted x x xs ∙ ap (λ b. cond b 1 0 + count_by (λ y. y == x) xs) (eq-eqb x x refl) in
      let more = one_counted x xs h in
      (x, omega (arith, c, more)))
  | inr h ↦ (let more = two_counted xs h in let c = counted more.0 x xs in let m = more.1 in (more.0, omega (arith, c, m)))
]

few : (b : Bool) → cond b 1 0 ≤ 1
few true = omega arith
few false = omega arith

twice_if_counted : (xs : List ℕ) (a : ℕ) → 2 ≤ count_by (λ y. y == a) xs → has_twice xs ≡ true
twice_if_counted xs a l =
    true_from_ne_false (has_twice xs) (λ once. let c = count_once xs a once in let most = few (is_among xs a) in omega (arith, c, most))

twice_kept : (xs ys : List ℕ) → IsPermutation xs ys → has_twice xs ≡ true → has_twice ys ≡ true
twice_kept xs ys perm e =
    let two = two_counted xs e in
    let same = sum_by-IsPermutation (λ y. cond (y == two.0) 1 0) xs ys perm in
    let l = two.1 in
    twice_if_counted ys two.0 (omega (arith, same, l))

-- in another order they stand there twice or not alike
pub twice_permuted : (xs ys : List ℕ) → IsPermutation xs ys → (t : Bool) → has_twice ys ≡ t → has_twice xs ≡ t
twice_permuted xs ys perm true e = twice_kept ys xs (IsPermutation-sym xs ys perm) e
twice_permuted xs ys perm false e = false_from_ne_true (has_twice xs) (λ h. both_ways (has_twice ys) e (twice_kept xs ys perm h))
