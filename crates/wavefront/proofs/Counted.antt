-- Of two tests, which lets fewer numbers through.
use Rattle.std.proofs.Common.{◌≡◌, ℕ, ◌+◌, ◌<◌, ◌≤◌, List, [], ◌∷◌, Bool, true, false, count_by, cond, Contains, inl, inr, refl, sym, ◌∙◌, arith, rules}
use Rattle.std.proofs.lemmas.Grind.{common_steps}
use Rattle.std.proofs.lemmas.Bool.{false≢true}
use Rattle.std.proofs.lemmas.List.Sums.{sum_by-cons}
use Rattle.wavefront.proofs.Lists.{contains_none, contains_first, contains_later, contains_cases}

count_one : (p : ℕ → Bool) (x : ℕ) (xs : List ℕ) (b : Bool) → p x ≡ b → count_by p (x ∷ xs) ≡ cond b 1 0 + count_by p xs
count_one p x xs b e = sum_by-cons _ x xs ∙ rw e refl

one_le : (p q : ℕ → Bool) (x : ℕ) (xs : List ℕ) (b c : Bool) → p x ≡ b → q x ≡ c → (p x ≡ true → q x ≡ true) → count_by p (x ∷ xs) + count_by q xs ≤ count_by q (x ∷ xs) + count_by p xs
one_le p q x xs false c e f h = let m = count_one p x xs false e in let n = count_one q x xs c f in omega (arith, m, n)
one_le p q x xs true true e f h = let m = count_one p x xs true e in let n = count_one q x xs true f in omega (arith, m, n)
one_le p q x xs true false e f h = absurd (false≢true (sym f ∙ h e))

-- where each that passes p passes q, no more pass p
count_le : (p q : ℕ → Bool) (xs : List ℕ) → ((x : ℕ) → Contains xs x → p x ≡ true → q x ≡ true) → count_by p xs ≤ count_by q xs
count_le p q [] h = search (rules, common_steps)
count_le p q (x ∷ xs) h =
    let rest = count_le p q xs (λ y has. h y (contains_later x y xs has)) in
    let one = one_le p q x xs (p x) (q x) refl refl (h x (contains_first x xs)) in
    omega (arith, one, rest)

-- and fewer, where one passes q alone
pub count_less : (p q : ℕ → Bool) (xs : List ℕ) (y : ℕ) → ((x : ℕ) → Contains xs x → p x ≡ true → q x ≡ true) → Contains xs y → p y ≡ false → q y ≡ true → count_by p xs < count_by q xs
count_less p q [] y h has fails passes = absurd (contains_none y has)
count_less p q (x ∷ xs) y h has fails passes = elim (contains_cases x y xs has) [
  | inl e ↦
      let rest = count_le p q xs (λ z later. h z (contains_later x z xs later)) in
      let m = count_one p x xs false (rw (← e) fails) in
      let n = count_one q x xs true (rw (← e) passes) in
      omega (arith, m, n, rest)
  | inr later ↦
      let rest = count_less p q xs y (λ z later. h z (contains_later x z xs later)) later fails passes in
      let one = one_le p q x xs (p x) (q x) refl refl (h x (contains_first x xs)) in
      omega (arith, one, rest)
]
