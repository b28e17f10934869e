-- Packed counts: setting the number of a node, and copying all, block by block.
use Rattle.std.proofs.Common.{◌≡◌, ◌≢◌, ◌↔◌, ℕ, zero, suc, ◌+◌, ◌*◌, ◌/◌, ◌%◌, ◌<◌, ◌≤◌, List, length, get_or, set, replicate, refl, sym, ◌∙◌, ap, subst, inl, inr, arith}
use Rattle.std.specs.Prelude.{Bool, true, false, eqb, if◌then◌else◌, min, ◌-◌}
use Rattle.std.proofs.lemmas.Bool.{cases_eq, cases_lt}
use Rattle.std.proofs.lemmas.Bool.Decides.{nat_tests}
use Rattle.std.proofs.lemmas.List.{ext_get_or, get_or_past, get_or-set_same, get_or-set_other, length-set, length-replicate}
use Rattle.std.proofs.lemmas.List.Elements.{All-replicate}
use Rattle.std.proofs.lemmas.List.FromFn.{length-map-range_with_len, get_or-map-range_with_len}
use Rattle.node_cost.specs.kept.Words.{number_at, IsPut}
use Rattle.node_cost.specs.kept.Packed.{narrow_of, flag_of, count_of, counts_of, IsMarked, IsFull, PutsNarrow, AgreesBelow, CopiesPart, CopiesBlock, IsPacked}

pub length_counts : (words wide : List ℕ) → length (counts_of words wide) ≡ length wide
unfolding counts_of
length_counts words wide = length-map-range_with_len (count_of words wide) 0 (length wide)

pub count_is : (words wide : List ℕ) (id : ℕ) → id < length wide → get_or (counts_of words wide) id 0 ≡ count_of words wide id
unfolding counts_of
count_is words wide id l = get_or-map-range_with_len (count_of words wide) 0 (length wide) id id 0 l (omega arith)

-- two packings of as many nodes that agree at each of them
same_counts : (words wide : List ℕ) (other_words other : List ℕ) → length wide ≡ length other →
    ((id : ℕ) → id < length wide → count_of words wide id ≡ count_of other_words other id) → counts_of words wide ≡ counts_of other_words other
same_counts words wide other_words other e h =
    ext_get_or 0 (counts_of words wide) (counts_of other_words other)
    (length_counts words wide ∙ (e ∙ sym (length_counts other_words other)))
    (λ id l. let here : id < length wide = omega (arith, length_counts words wide) in
    count_is words wide id here ∙ (h id here ∙ sym (count_is other_words other id (omega arith))))

-- one node's number is put, and all others stay
counts_put : (words wide : List ℕ) (new_words new : List ℕ) (id count : ℕ) → id < length wide → length new ≡ length wide →
    count_of new_words new id ≡ count → ((k : ℕ) → k ≢ id → count_of new_words new k ≡ count_of words wide k) →
    counts_of new_words new ≡ set (counts_of words wide) id count
counts_put words wide new_words new id n l e here elsewhere =
    ext_get_or 0 (counts_of new_words new) (set (counts_of words wide) id n)
    (length_counts new_words new ∙ (e ∙ sym (length-set (counts_of words wide) id n ∙ length_counts words wide)))
    (λ k lt. let within : k < length new = omega (arith, length_counts new_words new) in
    count_is new_words new k within ∙ elim (cases_eq k id) [
      | inl same ↦
          subst (λ k. count_of new_words new k ≡ get_or (set (counts_of words wide) id n) k 0) (sym same)
          (here ∙ sym (get_or-set_same (counts_of words wide) id n 0 (omega (arith, length_counts words wide))))
      | inr apart ↦
          elsewhere k apart ∙ (sym (count_is words wide k (omega arith)) ∙ sym (get_or-set_other (counts_of words wide) id k n 0 apart))
    ])

-- a number in three bits, and one in the table
narrow_reported : (number wide n : ℕ) → number ≡ n → n < 7 → (if eqb number 7 then wide else number) ≡ n
narrow_reported number wide n e l = grind (arith, nat_tests)

wide_reported : (number wide : ℕ) → number ≡ 7 → (if eqb number 7 then wide else number) ≡ wide
wide_reported number wide e = grind (arith, nat_tests)

-- the four bits of a flag and a number
number_of : (flag n bits : ℕ) → n < 8 → bits ≡ 8 * flag + n → bits % 8 ≡ n
number_of flag n bits l e = omega (arith, l, e)

pub narrow_put : (words new wide : List ℕ) (id flag count : ℕ) → id < length wide → count < 7 → PutsNarrow id (8 * flag + count) words new →
    counts_of new wide ≡ set (counts_of words wide) id count
unfolding count_of
narrow_put words new wide id flag n l few put =
    counts_put words wide new wide id n l refl (narrow_reported (narrow_of new id % 8) (get_or wide id 0) n (number_of flag n (narrow_of new id) (omega (arith, few)) put.here) few)
    (λ k apart. ap (λ b. if eqb (b % 8) 7 then get_or wide k 0 else b % 8) (put.elsewhere k apart))

pub wide_put : (words new wide : List ℕ) (id flag count : ℕ) → id < length wide → PutsNarrow id (8 * flag + 7) words new →
    counts_of new (set wide id count) ≡ set (counts_of words wide) id count
unfolding count_of
wide_put words new wide id flag n l put =
    counts_put words wide new (set wide id n) id n l (length-set wide id n)
    (wide_reported (narrow_of new id % 8) (get_or (set wide id n) id 0) (number_of flag 7 (narrow_of new id) (omega arith) put.here) ∙ get_or-set_same wide id n 0 l)
    (λ k apart. ap (λ b. if eqb (b % 8) 7 then get_or (set wide id n) k 0 else b % 8) (put.elsewhere k apart)
    ∙ ap (λ w. if eqb (narrow_of words k % 8) 7 then w else narrow_of words k % 8) (get_or-set_other wide id k n 0 apart))

-- setting a number keeps flags
pub flags_kept : (words new : List ℕ) (id flag n : ℕ) → flag ≡ narrow_of words id / 8 → n < 8 → PutsNarrow id (8 * flag + n) words new → (k : ℕ) → flag_of new k ≡ flag_of words k
flags_kept words new id flag n is l put k = elim (cases_eq k id) [
  | inl same ↦
      let here : narrow_of new k ≡ 8 * flag + n = ap (narrow_of new) same ∙ put.here in
      let there : narrow_of words k ≡ narrow_of words id = ap (narrow_of words) same in
      omega (arith, here, there, is, l)
  | inr apart ↦ ap (λ b. b / 8) (put.elsewhere k apart)
]

-- setting a flag keeps numbers
pub numbers_kept : (words new : List ℕ) (id flag : ℕ) → PutsNarrow id (narrow_of words id % 8 + 8 * flag) words new → (k : ℕ) → narrow_of new k % 8 ≡ narrow_of words k % 8
numbers_kept words new id flag put k = elim (cases_eq k id) [
  | inl same ↦
      let here : narrow_of new k ≡ narrow_of words id % 8 + 8 * flag = ap (narrow_of new) same ∙ put.here in
      let there : narrow_of words k ≡ narrow_of words id = ap (narrow_of words) same in
      omega (arith, here, there)
  | inr apart ↦ ap (λ b. b % 8) (put.elsewhere k apart)
]

pub counts_kept : (words new wide : List ℕ) → ((k : ℕ) → narrow_of new k % 8 ≡ narrow_of words k % 8) → counts_of new wide ≡ counts_of words wide
unfolding count_of
counts_kept words new wide same = same_counts new wide words wide refl (λ id l. ap (λ n. if eqb n 7 then get_or wide id 0 else n) (same id))

-- the bits of one node in its word
pub bits_put : (words : List ℕ) (id number word : ℕ) → id < 16 * length words → IsPut (id % 16) number (get_or words (id / 16) 0) word →
    PutsNarrow id number words (set words (id / 16) word)
unfolding narrow_of
bits_put words id n word l put = record {
  here = ap (λ w. number_at w (id % 16)) (get_or-set_same words (id / 16) word 0 (omega arith)) ∙ put.here;
  elsewhere = λ k apart. elim (cases_eq (k / 16) (id / 16)) [
    | inl same ↦
        ap (λ w. number_at w (k % 16)) (ap (λ i. get_or (set words (id / 16) word) i 0) same ∙ get_or-set_same words (id / 16) word 0 (omega arith))
        ∙ (put.elsewhere (k % 16) (λ e. apart (omega arith)) ∙ ap (λ i. number_at (get_or words i 0) (k % 16)) (sym same))
    | inr other ↦ ap (λ w. number_at w (k % 16)) (get_or-set_other words (id / 16) (k / 16) word 0 other)
  ];
}

pub nothing_at : (place : ℕ) → number_at 0 place ≡ 0
unfolding number_at
nothing_at zero = refl
nothing_at (suc p) = nothing_at p

pub zero_everywhere : (n i zero_here : ℕ) → zero_here ≡ 0 → get_or (replicate n zero_here) i zero_here ≡ zero_here
zero_everywhere zero i z e = refl
zero_everywhere (suc n) zero z e = refl
zero_everywhere (suc n) (suc i) z e = zero_everywhere n i z e

pub none_counted : (words nodes : ℕ) → counts_of (replicate words 0) (replicate nodes 0) ≡ replicate nodes 0
unfolding count_of narrow_of
none_counted m n =
    ext_get_or 0 (counts_of (replicate m 0) (replicate n 0)) (replicate n 0) (length_counts (replicate m 0) (replicate n 0))
    (λ i l. count_is (replicate m 0) (replicate n 0) i (omega (arith, length_counts (replicate m 0) (replicate n 0)))
    ∙ (narrow_reported _ (get_or (replicate n 0) i 0) 0 (ap (λ b. b % 8) (ap (λ w. number_at w (i % 16)) (zero_everywhere m (i / 16) 0 refl) ∙ nothing_at (i % 16))) (omega arith)
    ∙ sym (zero_everywhere n i 0 refl)))

pub none_packed : (words wide : List ℕ) (marks : List Bool) (nodes : ℕ) → words ≡ replicate (nodes / 16 + 1) 0 → wide ≡ replicate nodes 0 →
    length marks ≡ nodes / 1024 + 1 → IsPacked words wide marks
unfolding narrow_of
none_packed words wide marks n few none blocks = record {
  each = rw (few, none, length-replicate {A = ℕ} (n / 16 + 1) 0, length-replicate {A = ℕ} n 0) refl;
  blocks = rw (none, length-replicate {A = ℕ} n 0) blocks;
  marked = rw few (λ id seven. absurd (let nothing = nothing_in id in omega (arith, seven, nothing)));
  full = rw few (λ id seven. absurd (let nothing = nothing_in id in omega (arith, seven, nothing)));
  plain = rw few (λ id. let nothing = nothing_in id in omega (arith, nothing));
  bounded = rw (few, none, none_counted) (All-replicate (λ k. k ≤ 65535) n 0 (omega arith));
}
  where
    nothing_in : (id : ℕ) → number_at (get_or (replicate (n / 16 + 1) 0) (id / 16) 0) (id % 16) ≡ 0
    nothing_in id = ap (λ w. number_at w (id % 16)) (zero_everywhere (n / 16 + 1) (id / 16) 0 refl) ∙ nothing_at (id % 16)

-- a copy of words with the same numbers, and of the table's marked blocks
either : (number wide other : ℕ) → (number ≡ 7 → wide ≡ other) → (if eqb number 7 then wide else number) ≡ (if eqb number 7 then other else number)
either number wide other h = grind (arith, nat_tests)

module _ (words from_words from wide : List ℕ) (marks : List Bool) (same : (id : ℕ) → narrow_of words id % 8 ≡ narrow_of from_words id % 8) (marked : IsMarked from_words marks)
    (copied : (id : ℕ) → get_or marks (id / 1024) false ≡ true → get_or wide id 0 ≡ get_or from id 0) where
  table_copied : (id : ℕ) → narrow_of words id % 8 ≡ 7 → get_or wide id 0 ≡ get_or from id 0
  table_copied id seven = copied id (marked id (sym (same id) ∙ seven))

  pub wide_copied : length wide ≡ length from → counts_of words wide ≡ counts_of from_words from
  unfolding count_of
  wide_copied e = same_counts words wide from_words from e (λ id l.
      either (narrow_of words id % 8) (get_or wide id 0) (get_or from id 0) (table_copied id)
      ∙ ap (λ n. if eqb n 7 then get_or from id 0 else n) (same id))

  pub full_copied : IsFull from_words from → IsFull words wide
  full_copied full id seven = let there = full id (sym (same id) ∙ seven) in let here = table_copied id seven in omega (arith, there, here)

  pub marks_copied : IsMarked words marks
  marks_copied id seven = marked id (sym (same id) ∙ seven)

-- marks stay right if a number is set
pub narrow_marked : (words new : List ℕ) (marks : List Bool) (id flag count : ℕ) → count < 7 → PutsNarrow id (8 * flag + count) words new → IsMarked words marks → IsMarked new marks
narrow_marked words new marks id flag n few put marked k seven = elim (cases_eq k id) [
  | inl same ↦ let here = ap (narrow_of new) same ∙ put.here in absurd (omega (arith, seven, here, few))
  | inr apart ↦ marked k (ap (λ b. b % 8) (sym (put.elsewhere k apart)) ∙ seven)
]

pub wide_marked : (words new : List ℕ) (marks : List Bool) (id number : ℕ) → id / 1024 < length marks → PutsNarrow id number words new → IsMarked words marks →
    IsMarked new (set marks (id / 1024) true)
wide_marked words new marks id number l put marked k seven = elim (cases_eq (k / 1024) (id / 1024)) [
  | inl same ↦ ap (λ i. get_or (set marks (id / 1024) true) i false) same ∙ get_or-set_same marks (id / 1024) true false l
  | inr apart ↦
      get_or-set_other marks (id / 1024) (k / 1024) true false apart ∙ marked k (ap (λ b. b % 8) (sym (put.elsewhere k (λ e. apart (ap (λ i. i / 1024) e)))) ∙ seven)
]

-- the table still has only numbers that don't fit
pub narrow_full : (words new wide : List ℕ) (id flag count : ℕ) → count < 7 → PutsNarrow id (8 * flag + count) words new → IsFull words wide → IsFull new wide
narrow_full words new wide id flag n few put full k seven = elim (cases_eq k id) [
  | inl same ↦ let here = ap (narrow_of new) same ∙ put.here in absurd (omega (arith, seven, here, few))
  | inr apart ↦ full k (ap (λ b. b % 8) (sym (put.elsewhere k apart)) ∙ seven)
]

pub wide_full : (words new wide : List ℕ) (id number count : ℕ) → id < length wide → 7 ≤ count → PutsNarrow id number words new → IsFull words wide → IsFull new (set wide id count)
wide_full words new wide id number n l many put full k seven = elim (cases_eq k id) [
  | inl same ↦ let here = ap (λ i. get_or (set wide id n) i 0) same ∙ get_or-set_same wide id n 0 l in omega (arith, here, many)
  | inr apart ↦ let there = full k (ap (λ b. b % 8) (sym (put.elsewhere k apart)) ∙ seven) in let here = get_or-set_other wide id k n 0 apart in omega (arith, there, here)
]

-- no net uses a node
few_used : (number wide : ℕ) → (if eqb number 7 then wide else number) ≡ 0 → (number ≡ 7 → 7 ≤ wide) → number ≡ 0
few_used number wide none full = grind (arith, nat_tests)

pub none_used : (words wide : List ℕ) (id : ℕ) → IsFull words wide → (narrow_of words id % 8 ≡ 0) ↔ (count_of words wide id ≡ 0)
unfolding count_of
none_used words wide id full = (λ none. narrow_reported (narrow_of words id % 8) (get_or wide id 0) 0 none (omega arith), λ none. few_used (narrow_of words id % 8) (get_or wide id 0) none (full id))

pub block_kept : (from wide : List ℕ) (block : ℕ) (is_marked : Bool) → is_marked ≡ false → CopiesBlock block is_marked from wide wide
block_kept from wide block m none = record { here = λ yes id at. cc; before = λ id b. refl }

pub block_copied : (from old new : List ℕ) (block end : ℕ) (is_marked : Bool) → end ≡ 1024 * block + min (length old - 1024 * block) 1024 →
    length new ≡ length old → length old ≡ length from → CopiesPart (1024 * block) end from old new → CopiesBlock block is_marked from old new
block_copied from old new block end m e size same part = record {
  here = λ marked id at. elim (cases_lt id end) [
    | inl l ↦ part.within id (omega arith) l
    | inr past ↦ get_or_past new id 0 (omega arith) ∙ sym (get_or_past from id 0 (omega arith))
  ];
  before = λ id b. part.before id (omega arith);
}

pub agrees_more : (marks : List Bool) (from old new : List ℕ) (block : ℕ) (is_marked : Bool) → is_marked ≡ get_or marks block false →
    AgreesBelow (1024 * block) marks from old → CopiesBlock block is_marked from old new → AgreesBelow (1024 * (block + 1)) marks from new
agrees_more marks from old new block m e so_far copied id l marked = elim (cases_lt id (1024 * block)) [
  | inl before ↦ copied.before id (omega arith) ∙ so_far id before marked
  | inr past ↦
      let at : id / 1024 ≡ block = omega arith in
      copied.here (e ∙ (ap (λ i. get_or marks i false) (sym at) ∙ marked)) id at
]

pub agrees_all : (marks : List Bool) (from wide : List ℕ) → AgreesBelow (1024 * length marks) marks from wide →
    (id : ℕ) → get_or marks (id / 1024) false ≡ true → get_or wide id 0 ≡ get_or from id 0
agrees_all marks from wide below id marked = elim (cases_lt (id / 1024) (length marks)) [
  | inl l ↦ below id (omega arith) marked
  | inr past ↦ let none = get_or_past marks (id / 1024) false past in cc
]
