-- The first answer over a range of numbers.
use Rattle.std.proofs.Common.{◌≡◌, ℕ, ◌+◌, ◌<◌, zero, suc, Bool, true, false, Option, Some, None, refl, sym, ap, ◌∙◌, arith, zero-add}
use Rattle.std.specs.List.{range_with_len, list_all}
use Rattle.std.proofs.lemmas.List.Elements.{All-from_get_or}
use Rattle.std.proofs.lemmas.List.Sums.{list_all-from_AllPass}
use Rattle.std.proofs.lemmas.List.Folds.{list_all_at}
use Rattle.std.proofs.lemmas.List.FromFn.{length-range_with_len, get_or-range_with_len}
use Rattle.std.proofs.lemmas.Option.{none-some}
use Rattle.routing_problem.specs.Problems.{or_later, first_some}

module _ {A : Type 0} where
  first_in_range : (g : ℕ → Option A) (a n i : ℕ) → i < n → ((k : ℕ) → k < i → g (a + k) ≡ None) → (r : Option A) → g (a + i) ≡ r → (e : A) → r ≡ Some e → first_some g (range_with_len a n) ≡ r
  first_in_range g a zero i l below r here e some = absurd (omega arith)
  first_in_range g a (suc n) zero l below r here e some =
      let at : a ≡ a + 0 = omega arith in
      ap (λ x. or_later x (first_some g (range_with_len (a + 1) n))) (ap g at ∙ here ∙ some) ∙ sym some
  first_in_range g a (suc n) (suc i) l below r here e some =
      let at : a ≡ a + 0 = omega arith in
      let there : a + 1 + i ≡ a + suc i = omega arith in
      ap (λ x. or_later x (first_some g (range_with_len (a + 1) n))) (ap g at ∙ below 0 (omega arith))
      ∙ first_in_range g (a + 1) n i (omega arith) (λ k m. let e : a + 1 + k ≡ a + suc k = omega arith in ap g e ∙ below (suc k) (omega arith)) r (ap g there ∙ here) e some

  pub none_in_range : (g : ℕ → Option A) (a n : ℕ) → ((k : ℕ) → k < n → g (a + k) ≡ None) → first_some g (range_with_len a n) ≡ None
  none_in_range g a zero h = refl
  none_in_range g a (suc n) h =
      let at : a ≡ a + 0 = omega arith in
      ap (λ x. or_later x (first_some g (range_with_len (a + 1) n))) (ap g at ∙ h 0 (omega arith))
      ∙ none_in_range g (a + 1) n (λ k l. let e : a + 1 + k ≡ a + suc k = omega arith in ap g e ∙ h (suc k) (omega arith))

  pub first_below : (g : ℕ → Option A) (n i : ℕ) (e : A) → i < n → ((k : ℕ) → k < i → g k ≡ None) → g i ≡ Some e → first_some g (range_with_len 0 n) ≡ Some e
  first_below g n i e l below here =
      first_in_range g 0 n i l (λ k m. ap g (zero-add k) ∙ below k m) (Some e) (ap g (zero-add i) ∙ here) e refl

  pub none_below : (g : ℕ → Option A) (n : ℕ) → ((k : ℕ) → k < n → g k ≡ None) → first_some g (range_with_len 0 n) ≡ None
  none_below g n h = none_in_range g 0 n (λ k l. ap g (zero-add k) ∙ h k l)

  or_later-none : (x y : Option A) → or_later x y ≡ None → (x ≡ None) × (y ≡ None)
  or_later-none (Some e) y h = absurd (none-some e (sym h))
  or_later-none None y h = (refl, h)

  -- where there is no answer there is none at any number
  pub none_at : (g : ℕ → Option A) (a n : ℕ) → first_some g (range_with_len a n) ≡ None → (k : ℕ) → k < n → g (a + k) ≡ None
  none_at g a zero h k l = absurd (omega arith)
  none_at g a (suc n) h zero l = let at : a + 0 ≡ a = omega arith in ap g at ∙ (or_later-none (g a) (first_some g (range_with_len (a + 1) n)) h).0
  none_at g a (suc n) h (suc k) l =
      let at : a + suc k ≡ a + 1 + k = omega arith in
      ap g at ∙ none_at g (a + 1) n (or_later-none (g a) (first_some g (range_with_len (a + 1) n)) h).1 k (omega arith)

pub all_below : (p : ℕ → Bool) (n : ℕ) → ((k : ℕ) → k < n → p k ≡ true) → list_all p (range_with_len 0 n) ≡ true
all_below p n h = list_all-from_AllPass p (range_with_len 0 n) (All-from_get_or (λ k. p k ≡ true) (range_with_len 0 n) 0 (λ i l. let m : i < n = omega (arith, length-range_with_len 0 n) in rw (get_or-range_with_len 0 n i 0 m) (ap p (zero-add i) ∙ h i m)))

pub one_below : (p : ℕ → Bool) (n i : ℕ) → i < n → p i ≡ false → list_all p (range_with_len 0 n) ≡ false
one_below p n i l h = list_all_at p (range_with_len 0 n) i 0 (omega (arith, length-range_with_len 0 n)) (rw (get_or-range_with_len 0 n i 0 l) (ap p (zero-add i) ∙ h))
