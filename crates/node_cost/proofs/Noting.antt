-- Histories and their flags.
use Rattle.std.proofs.Common.{◌≡◌, ◌↔◌, ℕ, ◌+◌, ◌*◌, ◌/◌, ◌%◌, ◌<◌, ◌≤◌, ◌^◌, List, length, get_or, min, set, replicate, refl, sym, ◌∙◌, ap, inl, inr, arith}
use Rattle.std.proofs.lemmas.Bool.{cases_eq}
use Rattle.std.proofs.lemmas.List.{get_or-set_same, get_or-set_other, length-replicate}
use Rattle.std.proofs.lemmas.List.Elements.{All-replicate}
use Rattle.node_cost.specs.kept.Words.{number_at}
use Rattle.node_cost.specs.kept.Packed.{narrow_of, flag_of, count_of, AreFlags, IsFull, IsPlain, PutsNarrow}
use Rattle.node_cost.specs.kept.Noted.{IsNoted, AreHistories, IsFlagged}
use Rattle.node_cost.proofs.Packing.{none_used, nothing_at, zero_everywhere}

pub none_noted : (nodes words : ℕ) → IsNoted (replicate nodes 0) (replicate words 0)
unfolding narrow_of
none_noted nodes words id =
    let history = zero_everywhere nodes id 0 refl in
    let bits = ap (λ w. number_at w (id % 16)) (zero_everywhere words (id / 16) 0 refl) ∙ nothing_at (id % 16) in
    omega (arith, history, bits)

pub none_kept : (histories words : List ℕ) (nodes : ℕ) → histories ≡ replicate nodes 0 → words ≡ replicate (nodes / 16 + 1) 0 → AreHistories histories words
none_kept histories words nodes none few = rw (none, few) (record {
  bounded = All-replicate (λ k. k ≤ 2 ^ 42) nodes 0 (omega arith);
  each = length-replicate {A = ℕ} (nodes / 16 + 1) 0 ∙ ap (λ n. n / 16 + 1) (sym (length-replicate {A = ℕ} nodes 0));
  noted = none_noted nodes (nodes / 16 + 1);
})

-- the history of a node is set with its flag
pub noted_set : (histories words new : List ℕ) (id note history : ℕ) → id < length histories → IsNoted histories words → PutsNarrow id note words new → note ≡ 8 * min history 1 → IsNoted (set histories id history) new
noted_set histories words new id note history there noted put is k = elim (cases_eq k id) [
  | inl same ↦
      let history_here : get_or (set histories id history) k 0 ≡ history = ap (λ j. get_or (set histories id history) j 0) same ∙ get_or-set_same histories id history 0 there in
      let note_here : narrow_of new k ≡ note = ap (narrow_of new) same ∙ put.here in
      omega (arith, history_here, note_here, is)
  | inr apart ↦
      let history_there : get_or (set histories id history) k 0 ≡ get_or histories k 0 = get_or-set_other histories id k history 0 apart in
      let old = noted k in
      let kept = put.elsewhere k apart in
      omega (arith, history_there, old, kept)
]

-- the words of histories have no numbers
pub only_flags : (histories words : List ℕ) → IsNoted histories words → AreFlags words
only_flags histories words noted id = let here = noted id in omega (arith, here)

-- ---- flags beside numbers
pub flagged_as : (histories words new : List ℕ) → IsNoted histories words → ((id : ℕ) → flag_of new id ≡ flag_of words id) → IsFlagged histories new
flagged_as histories words new noted same id = let here = noted id in let e = same id in omega (arith, here, e)

pub flagged_kept : (histories words new : List ℕ) → IsFlagged histories words → ((id : ℕ) → flag_of new id ≡ flag_of words id) → IsFlagged histories new
flagged_kept histories words new flagged same id = same id ∙ flagged id

pub flagged_set : (histories words new : List ℕ) (id flag history : ℕ) → id < length histories → IsFlagged histories words → PutsNarrow id (narrow_of words id % 8 + 8 * flag) words new → flag ≡ min history 1
    → IsFlagged (set histories id history) new
flagged_set histories words new id flag history there flagged put is k = elim (cases_eq k id) [
  | inl same ↦
      let history_here : get_or (set histories id history) k 0 ≡ history = ap (λ j. get_or (set histories id history) j 0) same ∙ get_or-set_same histories id history 0 there in
      let here : narrow_of new k ≡ narrow_of words id % 8 + 8 * flag = ap (narrow_of new) same ∙ put.here in
      omega (arith, history_here, here, is)
  | inr apart ↦
      let history_there : get_or (set histories id history) k 0 ≡ get_or histories k 0 = get_or-set_other histories id k history 0 apart in
      let old = flagged k in
      let kept = put.elsewhere k apart in
      omega (arith, history_there, old, kept)
]

-- words without numbers and flags, if no node has a history
pub flagged_none : (histories words : List ℕ) → ((id : ℕ) → get_or histories id 0 ≡ 0) → IsPlain words → IsFlagged histories words
flagged_none histories words none plain id = let history = none id in let few = plain id in omega (arith, history, few)

-- the four bits are 0 if no other net uses the node and its history is 0
pub free_at : (histories words wide : List ℕ) (id : ℕ) → IsFull words wide → IsFlagged histories words → (narrow_of words id ≡ 0) ↔ ((count_of words wide id ≡ 0) × (get_or histories id 0 ≡ 0))
free_at histories words wide id full flagged =
    let used = none_used words wide id full in
    let flag = flagged id in (
      λ zero. (used.0 (omega (arith, zero)), omega (arith, flag, zero)),
      λ none. let number = used.1 none.0 in let history = none.1 in omega (arith, number, flag, history),
    )

-- a node without a flag has no history
pub no_history : (histories words : List ℕ) (id : ℕ) → IsFlagged histories words → narrow_of words id < 8 → get_or histories id 0 ≡ 0
no_history histories words id flagged few = let flag = flagged id in omega (arith, flag, few)
