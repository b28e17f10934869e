-- The sinks of a net, which ascend.
use Rattle.std.proofs.Common.{◌≡◌, ℕ, ◌+◌, ◌<◌, ◌≤◌, zero, suc, List, Bool, length, Contains, slice_index, Result, Ok, Err, MatchResult, ◌-◌, is_ok, IsTrue, refl, ap, ◌∙◌, ◌↔◌, arith, rules, inl, inr}
use Rattle.std.proofs.lemmas.List.{get_or_default}
use Rattle.std.proofs.lemmas.Bool.{cases_lt}
use Rattle.std.specs.List.Sorted.{IsStrictlyIncreasing, IsBinarySearchResult}
use Rattle.std.specs.Ordering.{nat_cmp}
use Rattle.std.proofs.lemmas.List.Sorted.{searched}
use Rattle.std.proofs.lemmas.List.Elements.{Contains-get_or}
use Rattle.wavefront.specs.Space.{Space, IsWanted}

-- numbers that ascend by one step ascend by any
pub rises : (xs : List ℕ) → IsStrictlyIncreasing xs → (i k j : ℕ) → j ≡ i + k → j < length xs → slice_index xs i ≤ slice_index xs j
rises xs up i zero j e lt = let same : j ≡ i = omega arith in rw same (omega arith)
rises xs up i (suc k) j e lt =
    let m = i + k in
    let before = rises xs up i k m refl (omega (arith, e, lt)) in
    let step = up m (omega (arith, e, lt)) in
    let at : slice_index xs (m + 1) ≡ slice_index xs j = ap (slice_index xs) (omega (arith, e)) in
    omega (arith, before, step, at)

-- a number that the search places between others is none of them
apart : (xs : List ℕ) (v i : ℕ) → (i ≤ length xs) × ((k : ℕ) → k < i → slice_index xs k < v) × ((k : ℕ) → i ≤ k → k < length xs → v < slice_index xs k) → (k : ℕ) → k < length xs → slice_index xs k ≡ v → ⊥
apart xs v i h k lt at = elim (cases_lt k i) [
  | inl below ↦ omega (arith, h.1 k below, at)
  | inr above ↦ omega (arith, h.2 k above lt, at)
]

pub wanted : (sinks xs : List ℕ) (v : ℕ) (r : Result ℕ ℕ) (answer : Bool) → IsStrictlyIncreasing sinks → xs ≡ sinks → IsBinarySearchResult (λ y. nat_cmp y v) xs r → answer ≡ is_ok r → IsTrue answer ↔ Contains sinks v
wanted sinks xs v r answer up same found e = rw (e, ← same) (by_answer r (searched xs v r found (λ i j le lt. rises xs (rw same up) i (j - i) j (omega (arith, le)) lt)))
  where
    by_answer : (r : Result ℕ ℕ) → MatchResult r (λ i. (i < length xs) × (slice_index xs i ≡ v)) (λ i. (i ≤ length xs) × ((k : ℕ) → k < i → slice_index xs k < v) × ((k : ℕ) → i ≤ k → k < length xs → v < slice_index xs k)) → IsTrue (is_ok r) ↔ Contains xs v
    by_answer (Ok i) h = (λ _. (i, h.0, get_or_default xs i v 0 h.0 ∙ h.1), λ _. search rules)
    by_answer (Err i) h = (λ t. absurd (search (rules, t)), λ (k, lt, at). absurd (apart xs v i h k lt (get_or_default xs k 0 v lt ∙ at)))

-- each sink of the net is wanted
pub is_sink_at : (space : Space) (k : ℕ) → k < length space.net.sinks → IsWanted space (slice_index space.net.sinks k)
is_sink_at space k lt = Contains-get_or space.net.sinks k 0 lt
