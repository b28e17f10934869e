-- Of the numbers that pass a test, how many stand before one.
use Rattle.std.proofs.Common.{◌≡◌, ℕ, zero, suc, ◌+◌, ◌<◌, Bool, true, false, cond, List, [], ◌∷◌, ◌++◌, length, get_or, if◌then◌else◌, inl, inr, refl, sym, ap, subst, ◌∙◌, arith, add-one, append-nil, length-append}
use Rattle.std.specs.Prelude.{filter}
use Rattle.std.specs.List.{range_with_len}
use Rattle.std.proofs.lemmas.Bool.{cases_lt}
use Rattle.std.proofs.Math.ListN.{get_or-append}
use Rattle.std.proofs.Math.Seq.{get_or-append_seam}
use Rattle.rr_graph.proofs.WireTables.{count_next}
use Rattle.rr_graph.proofs.Ranges.{filter_next}

abbrev pub passing : (ℕ → Bool) → ℕ → List ℕ
passing p n = filter p (range_with_len 0 n)

count_more : (p : ℕ → Bool) (c : ℕ) → length (passing p (suc c)) ≡ length (passing p c) + (if p c then 1 else 0)
count_more p c = ap (λ (m : ℕ). length (passing p m)) (sym (add-one c)) ∙ count_next p c

-- fewer pass before one that passes than before a later number
pub passing_less : (p : ℕ → Bool) (n c : ℕ) → n < c → p n ≡ true → length (passing p n) < length (passing p c)
passing_less p n zero lt e = absurd (omega arith)
passing_less p n (suc c) lt e = elim (cases_lt n c) [
  | inl below ↦ omega (arith, passing_less p n c below e, count_more p c)
  | inr above ↦
      let same : n ≡ c = omega arith in
      let here : p c ≡ true = ap p (sym same) ∙ e in
      let one : length (passing p (suc c)) ≡ length (passing p c) + 1 = count_more p c ∙ ap (λ b. length (passing p c) + (if b then 1 else 0)) here in
      let before : length (passing p n) ≡ length (passing p c) = ap (λ (m : ℕ). length (passing p m)) same in
      omega (arith, one, before)
]

-- m is below c and passes, and i numbers that pass stand before it
pub record IsPassing (p : ℕ → Bool) (c i m : ℕ) : Type 0 where
  pub below : m < c
  pub passes : p m ≡ true
  pub before : length (passing p m) ≡ i

wider : (p : ℕ → Bool) (c i m : ℕ) → IsPassing p c i m → IsPassing p (suc c) i m
wider p c i m h = record { below = omega (arith, h.below); passes = h.passes; before = h.before }

passing_by : (p : ℕ → Bool) (c i : ℕ) (b : Bool) → p c ≡ b → (i < length (passing p c) → IsPassing p c i (get_or (passing p c) i 0))
    → i < length (passing p c ++ cond b (c ∷ []) []) → IsPassing p (suc c) i (get_or (passing p c ++ cond b (c ∷ []) []) i 0)
passing_by p c i true e h lt =
    let xs = passing p c in
    elim (cases_lt i (length xs)) [
      | inl below ↦ subst (IsPassing p (suc c) i) (sym (get_or-append xs (c ∷ []) 0 i below)) (wider p c i (get_or xs i 0) (h below))
      | inr above ↦
          let long : length (xs ++ c ∷ []) ≡ length xs + 1 = length-append xs (c ∷ []) in
          let same : length xs ≡ i = omega (arith, lt, long) in
          let found : get_or (xs ++ c ∷ []) i 0 ≡ c = ap (λ (j : ℕ). get_or (xs ++ c ∷ []) j 0) (sym same) ∙ get_or-append_seam xs c [] 0 in
          subst (IsPassing p (suc c) i) (sym found) (record { below = omega arith; passes = e; before = same })
    ]
passing_by p c i false e h lt =
    let xs = passing p c in
    let same : xs ++ [] ≡ xs = append-nil xs in
    subst (λ (ys : List ℕ). IsPassing p (suc c) i (get_or ys i 0)) (sym same) (wider p c i (get_or xs i 0) (h (subst (λ (ys : List ℕ). i < length ys) same lt)))

pub passing_at : (p : ℕ → Bool) (c i : ℕ) → i < length (passing p c) → IsPassing p c i (get_or (passing p c) i 0)
passing_at p zero i lt = absurd (omega arith)
passing_at p (suc c) i lt =
    let next : passing p (suc c) ≡ passing p c ++ cond (p c) (c ∷ []) [] = ap (passing p) (sym (add-one c)) ∙ filter_next p c in
    subst (λ (ys : List ℕ). IsPassing p (suc c) i (get_or ys i 0)) (sym next) (passing_by p c i (p c) refl (passing_at p c i) (subst (λ (ys : List ℕ). i < length ys) next lt))
