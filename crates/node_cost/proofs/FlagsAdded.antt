-- Words of numbers without flags, to which flags are added.
use Rattle.std.proofs.Common.{◌≡◌, ℕ, ◌+◌, ◌*◌, ◌/◌, ◌%◌, ◌<◌, ◌^◌, List, length, get_or, set, sym, ◌∙◌, ap, inl, inr, arith}
use Rattle.std.proofs.lemmas.Bool.{cases_eq, cases_lt}
use Rattle.std.proofs.lemmas.List.{get_or_past, get_or-set_same, get_or-set_other}
use Rattle.node_cost.specs.kept.Words.{number_at}
use Rattle.node_cost.specs.kept.Packed.{narrow_of, flag_of, AreFlags, IsPlain}
use Rattle.node_cost.proofs.Packing.{nothing_at}
use Rattle.node_cost.proofs.Shifts.{added, added_within, number_below}

-- ---- one word
module _ (word flags : ℕ) (plain : (p : ℕ) → p < 16 → number_at word p < 8) (only : (p : ℕ) → p < 16 → number_at flags p % 8 ≡ 0) where
  fit : (p : ℕ) → p < 16 → number_at word p + number_at flags p < 16
  fit p l = let a = plain p l in let b = only p l in let most = number_below flags p in omega (arith, a, b, most)

  pub word_within : word < 2 ^ 64 → flags < 2 ^ 64 → word + flags < 2 ^ 64
  word_within few less = added_within 16 word flags fit few less

  pub word_added : (p : ℕ) → p < 16 → number_at (word + flags) p ≡ number_at word p + number_at flags p
  word_added p l = added 16 word flags fit p l

-- ---- a word of a list
word_at : (at place : ℕ) → place < 16 → (16 * at + place) / 16 ≡ at
word_at at place l = omega (arith, l)

place_at : (at place : ℕ) → place < 16 → (16 * at + place) % 16 ≡ place
place_at at place l = omega (arith, l)

narrow_at : (words : List ℕ) (at place : ℕ) → place < 16 → narrow_of words (16 * at + place) ≡ number_at (get_or words at 0) place
unfolding narrow_of
narrow_at words at place l = ap (λ i. number_at (get_or words i 0) ((16 * at + place) % 16)) (word_at at place l) ∙ ap (number_at (get_or words at 0)) (place_at at place l)

pub plain_at : (words : List ℕ) (at : ℕ) → IsPlain words → (place : ℕ) → place < 16 → number_at (get_or words at 0) place < 8
plain_at words at plain place l = let here = narrow_at words at place l in let few = plain (16 * at + place) in omega (arith, here, few)

pub only_at : (words : List ℕ) (at : ℕ) → AreFlags words → (place : ℕ) → place < 16 → number_at (get_or words at 0) place % 8 ≡ 0
only_at words at only place l = let here = narrow_at words at place l in let none = only (16 * at + place) in omega (arith, here, none)

-- ---- all words
abbrev pub AreAddedBelow : (plain flags words : List ℕ) → (end : ℕ) → Type 0
AreAddedBelow plain flags words end = (id : ℕ) → id / 16 < end → narrow_of words id ≡ narrow_of plain id + narrow_of flags id

pub added_more : (plain flags words : List ℕ) (at word : ℕ) → at < length words → AreAddedBelow plain flags words at
    → ((p : ℕ) → p < 16 → number_at word p ≡ number_at (get_or plain at 0) p + number_at (get_or flags at 0) p) → AreAddedBelow plain flags (set words at word) (at + 1)
unfolding narrow_of
added_more plain flags words at word there before sums id l = elim (cases_eq (id / 16) at) [
  | inl same ↦
      ap (λ w. number_at w (id % 16)) (ap (λ i. get_or (set words at word) i 0) same ∙ get_or-set_same words at word 0 there)
      ∙ (sums (id % 16) (omega arith)
      ∙ ap (λ i. number_at (get_or plain i 0) (id % 16) + number_at (get_or flags i 0) (id % 16)) (sym same))
  | inr apart ↦ ap (λ w. number_at w (id % 16)) (get_or-set_other words at (id / 16) word 0 apart) ∙ before id (omega (arith, l, apart))
]

pub added_all : (plain flags words : List ℕ) → length words ≡ length plain → length flags ≡ length plain → AreAddedBelow plain flags words (length words) → (id : ℕ) → narrow_of words id ≡ narrow_of plain id + narrow_of flags id
unfolding narrow_of
added_all plain flags words same also below id = elim (cases_lt (id / 16) (length words)) [
  | inl l ↦ below id l
  | inr past ↦
      let nothing = nothing_at (id % 16) in
      let a = ap (λ w. number_at w (id % 16)) (get_or_past words (id / 16) 0 past) in
      let b = ap (λ w. number_at w (id % 16)) (get_or_past plain (id / 16) 0 (omega (arith, past, same))) in
      let c = ap (λ w. number_at w (id % 16)) (get_or_past flags (id / 16) 0 (omega (arith, past, same, also))) in
      omega (arith, a, b, c, nothing)
]

-- ---- the numbers and the flags of such words
module _ (plain flags words : List ℕ) (are_plain : IsPlain plain) (only : AreFlags flags) (sums : (id : ℕ) → narrow_of words id ≡ narrow_of plain id + narrow_of flags id) where
  pub numbers_added : (id : ℕ) → narrow_of words id % 8 ≡ narrow_of plain id % 8
  numbers_added id = let few = are_plain id in let none = only id in let sum = sums id in omega (arith, few, none, sum)

  pub flags_added : (id : ℕ) → flag_of words id ≡ flag_of flags id
  flags_added id = let few = are_plain id in let none = only id in let sum = sums id in omega (arith, few, none, sum)
