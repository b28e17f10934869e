-- The nearest of sinks, looked for one by one.
use Rattle.std.proofs.Common.{◌≡◌, ℕ, ◌+◌, ◌<◌, ◌≤◌, List, length, slice_index, Contains, Option, Some, None, inl, inr, sym, ◌∙◌, subst, arith}
use Rattle.std.specs.Prelude.{IfNone}
use Rattle.std.proofs.lemmas.Bool.{cases_lt}
use Rattle.std.proofs.lemmas.List.{get_or_default}
use Rattle.wavefront.specs.Space.{IsWanted}
use Rattle.wave_ground.specs.kept.Grounds.{Ground}
use Rattle.group_wave.specs.kept.WaveState.{FAR, Wave}
use Rattle.group_wave.specs.kept.Wave.{IsBest, IsOrigin, cost_at}
use Rattle.group_wave.specs.kept.Steps.{IsNearest}

-- of the first i none is so
abbrev pub NoneBefore : (P : ℕ → Type 0) → List ℕ → ℕ → Type 0
NoneBefore P xs i = (k : ℕ) → k < i → P (slice_index xs k) → ⊥

pub none_more : (o : Option ℕ) (P : ℕ → Type 0) (xs : List ℕ) (i : ℕ) → IfNone o (NoneBefore P xs i) → (P (slice_index xs i) → ⊥) → IfNone o (NoneBefore P xs (i + 1))
none_more (Some x) P xs i none apart = tt
none_more None P xs i none apart = λ k less p. elim (cases_lt k i) [
  | inl before ↦ none k before p
  | inr after ↦ let at : k ≡ i = omega (arith, less, after) in apart (subst (λ n. P (slice_index xs n)) at p)
]

-- one more is not, where none was found with it
pub none_with : (before after : Option ℕ) (P : ℕ → Type 0) (xs : List ℕ) (i x : ℕ) → x ≡ slice_index xs i → IfNone before (NoneBefore P xs i) → IfNone after (before ≡ None) → IfNone after (P x → ⊥) → IfNone after (NoneBefore P xs (i + 1))
none_with before (Some y) P xs i x at none same apart = tt
none_with before None P xs i x at none same apart = none_more None P xs i (subst (λ (o : Option ℕ). IfNone o (NoneBefore P xs i)) same none) (λ p. apart (subst P (sym at) p))

pub none_all : (o : Option ℕ) (P : ℕ → Type 0) (xs : List ℕ) (i : ℕ) → length xs ≤ i → IfNone o (NoneBefore P xs i) → IfNone o ((x : ℕ) → Contains xs x → P x → ⊥)
none_all (Some x) P xs i all none = tt
none_all None P xs i all none = λ x has p. none has.0 (let lt = has.1 in omega (arith, lt, all)) (subst P (sym (get_or_default xs has.0 0 x has.1 ∙ has.2)) p)

-- the best is that of one of the sinks
pub some_nearest : (g : Ground) (w : Wave) → IsBest g w → w.best < FAR → ((sink : ℕ) → IsWanted g.space sink → IsNearest g w sink → ⊥) → ⊥
some_nearest g w best near none = elim best.met [
  | inl far ↦ omega (arith, far, near)
  | inr met ↦ none met.0 met.1.0 (record { «open» = met.1; at = met.2 })
]

-- so one is found
pub one_found : (g : Ground) (w : Wave) (o : Option ℕ) → IsBest g w → w.best < FAR → IfNone o ((x : ℕ) → Contains g.space.net.sinks x → IsNearest g w x → ⊥) → IfNone o (w.best ≡ FAR)
one_found g w (Some x) best near none = tt
one_found g w None best near none = absurd (some_nearest g w best near none)

-- a sink that the wave has yet to take is nearest where it costs no more than the best
pub no_dearer : (g : Ground) (w : Wave) (sink : ℕ) → IsBest g w → IsWanted g.space sink → (IsOrigin w sink → ⊥) → cost_at w sink ≤ w.best → IsNearest g w sink
no_dearer g w sink best wanted apart up = record { «open» = (wanted, apart); at = let low = best.low sink (wanted, apart) in omega (arith, low, up) }

-- what holds anyway
pub still_none : (o : Option ℕ) (P : Type 0) → P → IfNone o P
still_none (Some x) P p = tt
still_none None P p = p
