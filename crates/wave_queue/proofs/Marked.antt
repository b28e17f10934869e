-- Marks of places, and the rows that they are for.
use Rattle.std.proofs.Common.{◌≡◌, ◌≢◌, ℕ, ◌+◌, ◌*◌, ◌-◌, ◌/◌, ◌%◌, ◌^◌, ◌<◌, ◌≤◌, List, [], length, get_or, set, replicate, refl, sym, ap, subst, ◌∙◌, inl, inr, arith}
use Rattle.std.specs.Int.{bit_at}
use Rattle.std.proofs.lemmas.Bool.{cases_eq, cases_lt}
use Rattle.std.proofs.lemmas.List.{get_or-replicate, get_or_past, get_or-set_same, get_or-set_other, length-set, length-replicate}
use Rattle.std.proofs.lemmas.Nat.{shr-shr}
use Rattle.std.proofs.lemmas.Nat.Bits.{bit_at-zero, bit_at_above}
use Rattle.wave_queue.specs.kept.Bits.{PutsBit, DropsBit, NoneBelow}
use Rattle.wave_queue.specs.kept.Buckets.{most_buckets}
use Rattle.wave_queue.specs.kept.Marks.{mark_at, Marks, Unmarks, AreMarksFrom, AreUsed}

-- the marks of other places stay if the other bits of the word do
others_stay : (words : List ℕ) (place word : ℕ) → place < 64 * length words → ((j : ℕ) → j ≢ place % 64 → bit_at word j ≡ bit_at (get_or words (place / 64) 0) j)
    → (i : ℕ) → i ≢ place → mark_at (set words (place / 64) word) i ≡ mark_at words i
unfolding mark_at
others_stay words place word within same i apart = elim (cases_eq (i / 64) (place / 64)) [
  | inl here ↦
      ap (λ w. bit_at w (i % 64)) (ap (λ k. get_or (set words (place / 64) word) k 0) here ∙ get_or-set_same words (place / 64) word 0 (omega (arith, within)))
      ∙ (same (i % 64) (λ e. apart (omega (arith, e, here))) ∙ ap (λ k. bit_at (get_or words k 0) (i % 64)) (sym here))
  | inr other ↦ ap (λ w. bit_at w (i % 64)) (get_or-set_other words (place / 64) (i / 64) word 0 other)
]

word_put : (words : List ℕ) (place word : ℕ) → place < 64 * length words → mark_at (set words (place / 64) word) place ≡ bit_at word (place % 64)
unfolding mark_at
word_put words place word within = ap (λ w. bit_at w (place % 64)) (get_or-set_same words (place / 64) word 0 (omega (arith, within)))

pub marked : (words : List ℕ) (place word : ℕ) → place < 64 * length words → PutsBit (get_or words (place / 64) 0) word (place % 64) → Marks words (set words (place / 64) word) place
marked words place word within put = record {
  count = length-set words (place / 64) word;
  here = word_put words place word within ∙ put.here;
  others = others_stay words place word within put.others;
}

pub unmarked : (words : List ℕ) (place word : ℕ) → place < 64 * length words → DropsBit (get_or words (place / 64) 0) word (place % 64) → Unmarks words (set words (place / 64) word) place
unmarked words place word within drop = record {
  count = length-set words (place / 64) word;
  here = word_put words place word within ∙ drop.gone;
  others = others_stay words place word within drop.others;
}

-- a word that is shifted down to a place
pub marks_after : (words : List ℕ) (place : ℕ) → get_or words (place / 64) 0 < 2 ^ 64 → AreMarksFrom words place (get_or words (place / 64) 0 / 2 ^ (place % 64))
unfolding mark_at
marks_after words place fits =
    let word = get_or words (place / 64) 0 in
    let down : (j : ℕ) → bit_at (word / 2 ^ (place % 64)) j ≡ bit_at word (place % 64 + j) = λ j. ap (λ x. x % 2) (shr-shr word (place % 64) j) in
    record {
      within = λ j within.
          let same_word : place / 64 ≡ (place + j) / 64 = omega (arith, within) in
          let same_bit : place % 64 + j ≡ (place + j) % 64 = omega (arith, within) in
          down j ∙ (ap (bit_at word) same_bit ∙ ap (λ k. bit_at (get_or words k 0) ((place + j) % 64)) same_word);
      past = λ j past. down j ∙ bit_at_above word 64 (place % 64 + j) fits past;
    }

-- ---- the first place that is marked
pub none_marked : (words : List ℕ) (at : ℕ) → AreMarksFrom words at 0 → (i : ℕ) → at ≤ i → i < (at / 64 + 1) * 64 → mark_at words i ≡ 0
none_marked words at marks i from until =
    let e : at + (i - at) ≡ i = omega (arith, from) in
    ap (mark_at words) (sym e) ∙ (sym (marks.within (i - at) (omega (arith, from, until))) ∙ bit_at-zero (i - at))

below_word : (words : List ℕ) (at bits first : ℕ) → AreMarksFrom words at bits → bit_at bits first ≡ 1 → at % 64 + first < 64
below_word words at bits first marks one = elim (cases_lt (at % 64 + first) 64) [
  | inl less ↦ less
  | inr past ↦ absurd (let none = marks.past first past in omega (arith, one, none))
]

pub first_is : (words : List ℕ) (at bits first : ℕ) → AreMarksFrom words at bits → bit_at bits first ≡ 1 → mark_at words (at + first) ≡ 1
first_is words at bits first marks one = sym (marks.within first (below_word words at bits first marks one)) ∙ one

pub none_before : (words : List ℕ) (at bits first : ℕ) → AreMarksFrom words at bits → bit_at bits first ≡ 1 → NoneBelow bits first → (i : ℕ) → at ≤ i → i < at + first → mark_at words i ≡ 0
none_before words at bits first marks one below i from until =
    let within = below_word words at bits first marks one in
    let e : at + (i - at) ≡ i = omega (arith, from) in
    ap (mark_at words) (sym e) ∙ (sym (marks.within (i - at) (omega (arith, within, from, until))) ∙ below (i - at) (omega (arith, from, until)))

-- ---- no marks
abbrev nought : ℕ
nought = 0

blank : (n k : ℕ) → get_or (replicate n nought) k nought ≡ nought
blank n k = elim (cases_lt k n) [
  | inl within ↦ get_or-replicate n k nought nought within
  | inr past ↦ get_or_past (replicate n nought) k nought (omega (arith, length-replicate n nought, past))
]

unmarked_zero : (n i : ℕ) → mark_at (replicate n 0) i ≡ 0
unfolding mark_at
unmarked_zero n i = ap (λ w. bit_at w (i % 64)) (blank n (i / 64)) ∙ bit_at-zero (i % 64)

pub used_none : {X : Type 0} → AreUsed {X = X} [] (replicate (most_buckets / 64 + 1) 0)
used_none = record {
  each = length-replicate (most_buckets / 64 + 1) nought;
  few = omega arith;
  off = λ i _. refl;
  on = λ i one. absurd (let zero = unmarked_zero (most_buckets / 64 + 1) i in omega (arith, zero, one));
}

-- rows with the same elements, but for empty rows at the end
pub used_same : {X : Type 0} (rows now : List (List X)) (words : List ℕ) → ((i : ℕ) → get_or now i [] ≡ get_or rows i []) → length now ≤ most_buckets → AreUsed rows words → AreUsed now words
used_same rows now words same few used = record {
  each = used.each;
  few = few;
  off = λ i none. same i ∙ used.off i none;
  on = λ i one. subst (λ row. 0 < length row) (sym (same i)) (used.on i one);
}
