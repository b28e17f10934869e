-- Parts of a list of bytes, and the first place in a part that passes a test.
use Rattle.std.proofs.Common.{◌≡◌, ℕ, suc, ◌+◌, ◌-◌, ◌<◌, ◌≤◌, Bool, true, false, List, ◌∷◌, ◌++◌, length, get_or, take, drop, All, ap, subst, ◌∙◌, arith, inl, inr}
use Rattle.std.specs.Prelude.{slice_range}
use Rattle.std.specs.List.{position_or_len}
use Rattle.std.proofs.Math.Seq.{take-add}
use Rattle.std.proofs.lemmas.Bool.{cases_lt}
use Rattle.std.proofs.lemmas.List.{drop_more, drop-drop, length-take, length-drop, get_or-take, get_or-drop, get_or_default}
use Rattle.std.proofs.lemmas.List.Sums.{position_or_len_is}

-- no element from low on and below high passes
abbrev pub NonePass : (ℕ → Bool) → List ℕ → ℕ → ℕ → Type 0
NonePass p xs low high = (k : ℕ) → low ≤ k → k < high → p (get_or xs k 0) ≡ false

pub NonePass-more : (p : ℕ → Bool) (xs : List ℕ) (low i : ℕ) → NonePass p xs low i → p (get_or xs i 0) ≡ false → NonePass p xs low (i + 1)
NonePass-more p xs low i before here k le lt =
    elim (cases_lt k i) [
      | inl below ↦ before k le below
      | inr above ↦ (let e : i ≡ k = omega arith in subst (λ (j : ℕ). p (get_or xs j 0) ≡ false) e here)
    ]

pub length-part : (xs : List ℕ) (low high : ℕ) → low ≤ high → high ≤ length xs → length (slice_range xs low high) ≡ high - low
length-part xs low high a b = simp (length-take, length-drop) (omega arith)

pub get_or-part : (xs : List ℕ) (low high k : ℕ) → k < high - low → get_or (slice_range xs low high) k 0 ≡ get_or xs (low + k) 0
get_or-part xs low high k lt = get_or-take (high - low) (drop low xs) k 0 lt ∙ get_or-drop low xs k 0

-- a part is the part before i, the element at i, and the part after it
pub part_at : (xs : List ℕ) (low i high : ℕ) → low ≤ i → i < high → high ≤ length xs → slice_range xs low high ≡ slice_range xs low i ++ (get_or xs i 0 ∷ slice_range xs (i + 1) high)
part_at xs low i high a b c =
    let n : high - low ≡ (i - low) + suc (high - (i + 1)) = omega arith in
    let at : low + (i - low) ≡ i = omega arith in
    let rest : drop (i - low) (drop low xs) ≡ get_or xs i 0 ∷ drop (i + 1) xs = drop-drop (i - low) low xs ∙ ap (λ (k : ℕ). drop k xs) at ∙ drop_more xs i 0 (omega arith) in
    ap (λ (k : ℕ). take k (drop low xs)) n ∙ take-add (i - low) (suc (high - (i + 1))) (drop low xs)
    ∙ ap (λ (ys : List ℕ). take (i - low) (drop low xs) ++ take (suc (high - (i + 1))) ys) rest

-- the elements of a part, none of which passes
pub part_fails : (p : ℕ → Bool) (xs : List ℕ) (low high : ℕ) → low ≤ high → high ≤ length xs → NonePass p xs low high → All (λ x. p x ≡ false) (slice_range xs low high)
part_fails p xs low high a b none k d lt =
    let len = length-part xs low high a b in
    let within : k < high - low = omega (arith, len) in
    let same : get_or (slice_range xs low high) k d ≡ get_or xs (low + k) d = get_or-take (high - low) (drop low xs) k d within ∙ get_or-drop low xs k d in
    let default : get_or xs (low + k) d ≡ get_or xs (low + k) 0 = get_or_default xs (low + k) d 0 (omega arith) in
    ap p (same ∙ default) ∙ none (low + k) (omega arith) (omega arith)

-- the place of the first element of a part that passes
pub found_at : (p : ℕ → Bool) (xs : List ℕ) (low i high : ℕ) → low ≤ i → i ≤ high → high ≤ length xs → NonePass p xs low i → (i < high → p (get_or xs i 0) ≡ true) → i ≡ low + position_or_len p (slice_range xs low high)
found_at p xs low i high a b c none here =
    let len = length-part xs low high (omega arith) c in
    let at : low + (i - low) ≡ i = omega arith in
    let e = position_or_len_is p (slice_range xs low high) (i - low) 0 (omega (arith, len))
    (λ k lt. ap p (get_or-part xs low high k (omega arith)) ∙ none (low + k) (omega arith) (omega arith))
    (λ lt. ap p (get_or-part xs low high (i - low) (omega (arith, len)) ∙ ap (λ (k : ℕ). get_or xs k 0) at) ∙ here (omega (arith, len))) in
    omega (arith, e)
