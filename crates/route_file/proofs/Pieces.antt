-- Words cut at marks into pieces.
use Rattle.std.proofs.Common.{◌≡◌, ℕ, zero, suc, ◌+◌, ◌<◌, ◌≤◌, Bool, true, false, not, cond, List, [], ◌∷◌, ◌++◌, length, take, drop, get_or, map, set, flat_map, Bor, Some, None, refl, sym, ap, subst, ◌∙◌, arith, ltb}
use Rattle.std.specs.Prelude.{filter}
use Rattle.std.specs.List.{slice_split, onto_first, position, position_from, position_or_len}
use Rattle.std.proofs.lemmas.List.{length-append, length-drop, append_assoc, append-nil, drop_more, map-set, take_more_set, length-map}
use Rattle.std.proofs.lemmas.Bool.{not-false, not-true, ltb-false}
use Rattle.std.proofs.lemmas.List.Sums.{prefix_len-le-length}
use Rattle.std.proofs.lemmas.Option.{none-some}
use Rattle.std.proofs.lemmas.List.Quantifiers.{position-Some}
use Rattle.std.proofs.lemmas.Iterator.Adapters.{position_from-zero}
use Rattle.vpr_text.specs.Words.{is_filled}
use Rattle.route_file.specs.kept.NodeTexts.{IsCut}
use Rattle.route_file.specs.NodeWords.{is_mark, pieces_of}

module _ (p : ℕ → Bool) where
  abbrev pieces : List ℕ → List (List ℕ)
  pieces word = filter is_filled (slice_split p word)

  split_by : (t : Bool) (b : ℕ) (bs : List ℕ) → p b ≡ t → slice_split p (b ∷ bs) ≡ cond t ([] ∷ slice_split p bs) (onto_first b (slice_split p bs))
  split_by t b bs e = ap (λ s. cond s ([] ∷ slice_split p bs) (onto_first b (slice_split p bs))) e

  skip : (b : ℕ) (bs : List ℕ) → p b ≡ true → pieces (b ∷ bs) ≡ pieces bs
  skip b bs e = ap (filter is_filled) (split_by true b bs e)

  skip_all : (s : ℕ) (word : List ℕ) → s ≤ length word → ((k : ℕ) → k < s → p (get_or word k 0) ≡ true) → pieces word ≡ pieces (drop s word)
  skip_all zero word le h = refl
  skip_all (suc s) [] le h = absurd (omega (arith, le))
  skip_all (suc s) (b ∷ bs) le h = skip b bs (h 0 (omega arith)) ∙ skip_all s bs (omega (arith, le)) (λ k lt. h (suc k) (omega (arith, lt)))

  -- a word up to its first mark, and the parts after it
  record IsSplit (word : List ℕ) (n : ℕ) : Type 0 where
    tail : List (List ℕ)
    parts : slice_split p word ≡ take n word ∷ tail
    behind : filter is_filled tail ≡ pieces (drop n word)

  part_by : (t : Bool) (b : ℕ) (bs : List ℕ) → p b ≡ t → IsSplit bs (position_or_len p bs) → IsSplit (b ∷ bs) (cond (not t) (suc (position_or_len p bs)) 0)
  part_by true b bs e rest = record { tail = slice_split p bs; parts = split_by true b bs e; behind = sym (skip b bs e) }
  part_by false b bs e rest = record { tail = rest.tail; parts = split_by false b bs e ∙ ap (onto_first b) rest.parts; behind = rest.behind }

  first_at : (b : ℕ) (bs : List ℕ) → position_or_len p (b ∷ bs) ≡ cond (not (p b)) (suc (position_or_len p bs)) 0
  first_at b bs = let next : 1 + position_or_len p bs ≡ suc (position_or_len p bs) = omega arith in ap (λ n. cond (not (p b)) n 0) next

  first_part : (word : List ℕ) → IsSplit word (position_or_len p word)
  first_part [] = record { tail = []; parts = refl; behind = refl }
  first_part (b ∷ bs) = subst (IsSplit (b ∷ bs)) (sym (first_at b bs)) (part_by (p b) b bs refl (first_part bs))

  cut_split : (b : ℕ) (bs : List ℕ) (m : ℕ) → IsSplit (b ∷ bs) (suc m) → pieces (b ∷ bs) ≡ take (suc m) (b ∷ bs) ∷ pieces (drop (suc m) (b ∷ bs))
  cut_split b bs m h = ap (filter is_filled) h.parts ∙ ap (λ r. take (suc m) (b ∷ bs) ∷ r) h.behind

  cut_head : (b : ℕ) (bs : List ℕ) → p b ≡ false
      → (pieces (b ∷ bs) ≡ take (position_or_len p (b ∷ bs)) (b ∷ bs) ∷ pieces (drop (position_or_len p (b ∷ bs)) (b ∷ bs))) × (0 < position_or_len p (b ∷ bs))
  cut_head b bs e =
      let len : position_or_len p (b ∷ bs) ≡ suc (position_or_len p bs) = first_at b bs ∙ ap (λ t. cond (not t) (suc (position_or_len p bs)) 0) e in (
        subst (λ n. pieces (b ∷ bs) ≡ take n (b ∷ bs) ∷ pieces (drop n (b ∷ bs))) (sym len) (cut_split b bs (position_or_len p bs) (subst (IsSplit (b ∷ bs)) len (first_part (b ∷ bs)))),
        omega (arith, len),
      )

  cut_at : (word : List ℕ) (start : ℕ) → start < length word → ((k : ℕ) → k < start → p (get_or word k 0) ≡ true) → p (get_or word start 0) ≡ false
      → (pieces word ≡ take (position_or_len p (drop start word)) (drop start word) ∷ pieces (drop (position_or_len p (drop start word)) (drop start word)))
      × (0 < position_or_len p (drop start word))
  cut_at word start lt before here =
      let opened : drop start word ≡ get_or word start 0 ∷ drop (start + 1) word = drop_more word start 0 lt in
      let head = cut_head (get_or word start 0) (drop (start + 1) word) here in
      let whole = subst (λ v. (pieces v ≡ take (position_or_len p v) v ∷ pieces (drop (position_or_len p v) v)) × (0 < position_or_len p v)) (sym opened) head in
      (skip_all start word (omega (arith, lt)) before ∙ whole.0, whole.1)

  none_by : (k : ℕ) (word : List ℕ) → position_from (λ b. not (p b)) k word ≡ None → pieces word ≡ []
  none_by k [] e = refl
  none_by k (b ∷ bs) e = none_head (p b) k b bs refl e (none_by (k + 1) bs)
    where
      none_head : (t : Bool) (k b : ℕ) (bs : List ℕ) → p b ≡ t → cond (not (p b)) (Some k) (position_from (λ b. not (p b)) (k + 1) bs) ≡ None → (position_from (λ b. not (p b)) (k + 1) bs ≡ None → pieces bs ≡ [])
          → pieces (b ∷ bs) ≡ []
      none_head true k b bs is e h = skip b bs is ∙ h (sym (ap (λ t. cond (not t) (Some k) (position_from (λ b. not (p b)) (k + 1) bs)) is) ∙ e)
      none_head false k b bs is e h = absurd (none-some k (sym e ∙ ap (λ t. cond (not t) (Some k) (position_from (λ b. not (p b)) (k + 1) bs)) is))

abbrev is_other : ℕ → Bool
is_other b = not (is_mark b)

-- no piece, or the first one
pub no_piece : (word : List ℕ) → position (λ b. not (is_mark b)) word ≡ None → pieces_of word ≡ []
unfolding pieces_of
no_piece word e = none_by is_mark 0 word (sym (position_from-zero is_other word) ∙ e)

pub one_piece : (word : List ℕ) (start end : ℕ) → position (λ b. not (is_mark b)) word ≡ Some start → end ≡ position_or_len is_mark (drop start word) → IsCut word (take end (drop start word)) (drop end (drop start word))
unfolding pieces_of
one_piece word start end e is =
    let found = position-Some is_other word start 0 e in
    let cut = cut_at is_mark word start found.0 (λ k lt. not-false (is_mark (get_or word k 0)) (found.2 k lt)) (not-true (is_mark (get_or word start 0)) found.1) in
    let some : 0 < end = subst (λ n. 0 < n) (sym is) cut.1 in
    record {
      pieces = rw is cut.0;
      shorter = omega (arith, length-drop start word, length-drop end (drop start word), some, found.0);
    }

-- where no byte passes, the first that does is past the end
pub no_mark : (word : List ℕ) → position is_mark word ≡ None → length word ≡ position_or_len is_mark word
no_mark word e = at_end (ltb (position_or_len is_mark word) (length word)) refl e
  where
    at_end : (t : Bool) → ltb (position_or_len is_mark word) (length word) ≡ t → cond t (Some (position_or_len is_mark word)) None ≡ None → length word ≡ position_or_len is_mark word
    at_end true is h = absurd cc
    at_end false is h = omega (arith, ltb-false (position_or_len is_mark word) (length word) is, prefix_len-le-length (λ b. not (is_mark b)) word)

-- ---- pieces added one by one

pub piece_kept : (old new all : List (List ℕ)) (rest piece behind : List ℕ) → IsCut rest piece behind → new ≡ old ++ piece ∷ [] → old ++ pieces_of rest ≡ all → new ++ pieces_of behind ≡ all
piece_kept old new all rest piece behind cut is h =
    ap (λ ws. ws ++ pieces_of behind) is ∙ append_assoc old (piece ∷ []) (pieces_of behind) ∙ ap (λ ws. old ++ ws) (sym cut.pieces) ∙ h

pub piece_more : (old all : List (List ℕ)) (rest piece behind : List ℕ) → IsCut rest piece behind → length old ≡ 8 → old ++ pieces_of rest ≡ all → 8 < length all
piece_more old all rest piece behind cut full h =
    let long : length all ≡ length old + length (piece ∷ pieces_of behind) = ap length (sym h ∙ ap (λ ws. old ++ ws) cut.pieces) ∙ length-append old (piece ∷ pieces_of behind) in
    omega (arith, long, full)

pub pieces_done : (old all : List (List ℕ)) (rest : List ℕ) → pieces_of rest ≡ [] → old ++ pieces_of rest ≡ all → old ≡ all
pieces_done old all rest none h = sym (append-nil old) ∙ ap (λ ws. old ++ ws) (sym none) ∙ h

-- ---- the words of a line cut one by one

pub word_kept : (old new all : List (List ℕ)) (word : List ℕ) (words rest : List (List ℕ)) → words ≡ word ∷ rest → new ≡ old ++ pieces_of word → old ++ flat_map pieces_of words ≡ all → new ++ flat_map pieces_of rest ≡ all
word_kept old new all word words rest next is h =
    ap (λ ws. ws ++ flat_map pieces_of rest) is ∙ append_assoc old (pieces_of word) (flat_map pieces_of rest) ∙ ap (λ ws. old ++ flat_map pieces_of ws) (sym next) ∙ h

pub word_more : (old all : List (List ℕ)) (word : List ℕ) (words rest : List (List ℕ)) → words ≡ word ∷ rest → 8 < length (old ++ pieces_of word) → old ++ flat_map pieces_of words ≡ all → 8 < length all
word_more old all word words rest next more h =
    let whole : all ≡ (old ++ pieces_of word) ++ flat_map pieces_of rest = sym h ∙ ap (λ ws. old ++ flat_map pieces_of ws) next ∙ sym (append_assoc old (pieces_of word) (flat_map pieces_of rest)) in
    omega (arith, ap length whole, length-append (old ++ pieces_of word) (flat_map pieces_of rest), more)

pub words_done : (old all words : List (List ℕ)) → words ≡ [] → old ++ flat_map pieces_of words ≡ all → old ≡ all
words_done old all words none h = sym (append-nil old) ∙ ap (λ ws. old ++ flat_map pieces_of ws) (sym none) ∙ h

-- ---- words in an array

abbrev now : Bor (List ℕ) → List ℕ
now word = word.now

pub word_pushed : (words : List (Bor (List ℕ))) (count : ℕ) (word : Bor (List ℕ)) → count < length words → take (count + 1) (map (λ w. w.now) (set words count word)) ≡ take count (map (λ w. w.now) words) ++ word.now ∷ []
word_pushed words count word lt =
    let within : count < length (map now words) = omega (arith, lt, length-map words now) in
    ap (take (count + 1)) (map-set now words count word) ∙ take_more_set (map now words) count word.now within
