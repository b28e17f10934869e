-- The words of a part of the source, as ranges.
use Rattle.std.proofs.Common.{◌≡◌, ℕ, suc, ◌+◌, ◌-◌, ◌<◌, ◌≤◌, Bool, true, false, cond, eqb, ltb, List, [], ◌∷◌, ◌++◌, length, get_or, take, drop, set, All, refl, sym, ap, subst, ◌∙◌, append_assoc, arith, inl, inr}
use Rattle.std.specs.Prelude.{slice_range, filter, not}
use Rattle.std.specs.List.{slice_split, before_first, position_or_len}
use Rattle.std.proofs.lemmas.Bool.{cases_lt, lt-ltb, le-ltb, ltb-true}
use Rattle.std.proofs.lemmas.List.{append-nil, map-append, take-take, take_more, take_all, take-append-drop, drop-append-le, drop_at, take_at, length-take, length-drop, set_split, drop_all, get_or-drop}
use Rattle.std.proofs.lemmas.List.Elements.{All-append, All-nil, All-cons, All-take}
use Rattle.std.proofs.lemmas.List.Splits.{slice_split_at, slice_split_none}
use Rattle.std.proofs.lemmas.List.Sums.{prefix_len-le-length}
use Rattle.vpr_text.specs.declared.line.ByteRange.{ByteRange}
use Rattle.vpr_text.specs.Words.{is_separator, is_comment_sign, is_filled, words_between, words_on, ends_in_backslash, goes_on, shortened, given_up}
use Rattle.vpr_text.specs.kept.Split.{word_in, words_in, IsRange, range_if, Adds, words_left, GivesUp, AddsLine}
use Rattle.vpr_text.proofs.ByteParts.{NonePass, NonePass-more, length-part, get_or-part, part_at, part_fails}

-- ---- one word

is_filled-length : (xs : List ℕ) → is_filled xs ≡ ltb 0 (length xs)
is_filled-length [] = refl
is_filled-length (x ∷ xs) = sym (lt-ltb 0 (length (x ∷ xs)) (omega arith))

is_filled-part : (source : List ℕ) (start end : ℕ) → start ≤ end → end ≤ length source → is_filled (slice_range source start end) ≡ ltb start end
is_filled-part source start end a b =
    is_filled-length (slice_range source start end) ∙ ap (ltb 0) (length-part source start end a b) ∙ elim (cases_lt start end) [
      | inl lt ↦ lt-ltb 0 (end - start) (omega arith) ∙ sym (lt-ltb start end lt)
      | inr le ↦ le-ltb 0 (end - start) (omega arith) ∙ sym (le-ltb start end le)
    ]

chosen : (source : List ℕ) (start end : ℕ) (rest : List (List ℕ)) (b : Bool)
    → cond b (slice_range source start end ∷ rest) rest ≡ words_in source (cond b (record { start = start; end = end } ∷ []) []) ++ rest
chosen source start end rest true = refl
chosen source start end rest false = refl

-- a piece is a word where its range isn't empty
filter-part : (source : List ℕ) (start end : ℕ) (pieces : List (List ℕ)) → start ≤ end → end ≤ length source
    → filter is_filled (slice_range source start end ∷ pieces) ≡ words_in source (range_if start end) ++ filter is_filled pieces
filter-part source start end pieces a b =
    ap (λ (t : Bool). cond t (slice_range source start end ∷ filter is_filled pieces) (filter is_filled pieces)) (is_filled-part source start end a b)
    ∙ chosen source start end (filter is_filled pieces) (ltb start end)

fits_if : (n start end : ℕ) (b : Bool) → (b ≡ true → start < end) → end ≤ n → All (IsRange n) (cond b (record { start = start; end = end } ∷ []) [])
fits_if n start end true lt le = All-cons (IsRange n) (record { start = start; end = end }) [] (lt refl, le) (All-nil (IsRange n))
fits_if n start end false lt le = All-nil (IsRange n)

pub range_if_fits : (n start end : ℕ) → end ≤ n → All (IsRange n) (range_if start end)
range_if_fits n start end le = fits_if n start end (ltb start end) (ltb-true start end) le

-- ---- the words of a part

-- the ranges grew by words that, with those of the rest, are these
pub record Splits (source : List ℕ) (old new : List ByteRange) (rest total : List (List ℕ)) : Type 0 where
  pub added : List ByteRange
  pub whole : new ≡ old ++ added
  pub fits : All (IsRange (length source)) added
  pub words : words_in source added ++ rest ≡ total

pub Splits-more : (source : List ℕ) (old now new rs : List ByteRange) (rest total : List (List ℕ)) → All (IsRange (length source)) rs → new ≡ now ++ rs
    → Splits source old now (words_in source rs ++ rest) total → Splits source old new rest total
Splits-more source old now new rs rest total fits e s = record {
  added = s.added ++ rs;
  whole = e ∙ ap (λ (l : List ByteRange). l ++ rs) s.whole ∙ append_assoc old s.added rs;
  fits = All-append (IsRange (length source)) s.added rs s.fits fits;
  words = ap (λ (l : List (List ℕ)). l ++ rest) (map-append (word_in source) s.added rs) ∙ append_assoc (words_in source s.added) (words_in source rs) rest ∙ s.words;
}

-- where the words of the part from `start` on are still to come, and no separator stands from there
-- up to i
pub record IsSplitting (source : List ℕ) (old now : List ByteRange) (start i to : ℕ) (total : List (List ℕ)) : Type 0 where
  pub begun : start ≤ i
  pub clear : NonePass is_separator source start i
  pub splits : Splits source old now (words_between (slice_range source start to)) total

pub IsSplitting-passes : (source : List ℕ) (old now : List ByteRange) (start i to : ℕ) (total : List (List ℕ)) → is_separator (get_or source i 0) ≡ false
    → IsSplitting source old now start i to total → IsSplitting source old now start (i + 1) to total
IsSplitting-passes source old now start i to total here s = record {
  begun = (let b = s.begun in omega arith);
  clear = NonePass-more is_separator source start i s.clear here;
  splits = s.splits;
}

words_between-at : (source : List ℕ) (start i to : ℕ) → start ≤ i → i < to → to ≤ length source → NonePass is_separator source start i → is_separator (get_or source i 0) ≡ true
    → words_between (slice_range source start to) ≡ words_in source (range_if start i) ++ words_between (slice_range source (i + 1) to)
words_between-at source start i to a b c clear here =
    ap words_between (part_at source start i to a b c)
    ∙ ap (filter is_filled) (slice_split_at is_separator (slice_range source start i) (get_or source i 0) (slice_range source (i + 1) to) (part_fails is_separator source start i a (omega arith) clear) here)
    ∙ filter-part source start i (slice_split is_separator (slice_range source (i + 1) to)) a (omega arith)

words_between-last : (source : List ℕ) (start to : ℕ) → start ≤ to → to ≤ length source → NonePass is_separator source start to
    → words_between (slice_range source start to) ≡ words_in source (range_if start to) ++ []
words_between-last source start to a b clear =
    ap (filter is_filled) (slice_split_none is_separator (slice_range source start to) (part_fails is_separator source start to a b clear))
    ∙ filter-part source start to [] a b

pub IsSplitting-at : (source : List ℕ) (old now new : List ByteRange) (start i to : ℕ) (total : List (List ℕ)) → i < to → to ≤ length source → is_separator (get_or source i 0) ≡ true
    → new ≡ now ++ range_if start i → IsSplitting source old now start i to total → IsSplitting source old new (i + 1) (i + 1) to total
IsSplitting-at source old now new start i to total lt le here e s = record {
  begun = omega arith;
  clear = λ k a b. absurd (omega arith);
  splits = Splits-more source old now new (range_if start i) (words_between (slice_range source (i + 1) to)) total (range_if_fits (length source) start i (omega arith)) e
      (subst (λ (ws : List (List ℕ)). Splits source old now ws total) (words_between-at source start i to s.begun lt le s.clear here) s.splits);
}

pub IsSplitting-ends : (source : List ℕ) (old now new : List ByteRange) (start i to : ℕ) (total : List (List ℕ)) → i ≡ to → to ≤ length source
    → IsSplitting source old now start i to total → new ≡ now ++ range_if start to → Adds source old new total
IsSplitting-ends source old now new start i to total same le s e =
    let clear : NonePass is_separator source start to = subst (NonePass is_separator source start) same s.clear in
    let last = Splits-more source old now new (range_if start to) [] total (range_if_fits (length source) start to le) e
    (subst (λ (ws : List (List ℕ)). Splits source old now ws total) (words_between-last source start to (let h = s.begun in omega arith) le clear) s.splits) in
    record { added = last.added; whole = last.whole; fits = last.fits; words = sym (append-nil (words_in source last.added)) ∙ last.words }

-- ---- the backslash

goes_on-push : (ws : List (List ℕ)) (w : List ℕ) → goes_on (ws ++ w ∷ []) ≡ ends_in_backslash w
goes_on-push [] w = refl
goes_on-push (v ∷ []) w = refl
goes_on-push (v ∷ u ∷ us) w = goes_on-push (u ∷ us) w

given_up-push : (ws : List (List ℕ)) (w : List ℕ) → given_up (ws ++ w ∷ []) ≡ ws ++ shortened w
given_up-push [] w = refl
given_up-push (v ∷ []) w = refl
given_up-push (v ∷ u ∷ us) w = ap (λ (l : List (List ℕ)). v ∷ l) (given_up-push (u ∷ us) w)

ends_in_last : (b : ℕ) (bs : List ℕ) → ends_in_backslash (b ∷ bs) ≡ eqb (get_or (b ∷ bs) (length bs) 0) 92
ends_in_last b [] = refl
ends_in_last b (c ∷ bs) = ends_in_last c bs

ends_in_at : (xs : List ℕ) (n : ℕ) → length xs ≡ suc n → ends_in_backslash xs ≡ eqb (get_or xs n 0) 92
ends_in_at [] n e = absurd (omega (arith, e))
ends_in_at (x ∷ xs) n e = ends_in_last x xs ∙ ap (λ (k : ℕ). eqb (get_or (x ∷ xs) k 0) 92) (omega (arith, e))

ends_in_word : (source : List ℕ) (r : ByteRange) → IsRange (length source) r → ends_in_backslash (word_in source r) ≡ eqb (get_or source (r.end - 1) 0) 92
ends_in_word source r fits =
    let n = r.end - 1 - r.start in
    let long : length (word_in source r) ≡ suc n = length-part source r.start r.end (omega (arith, fits.0)) fits.1 ∙ omega (arith, fits.0) in
    let at : r.start + n ≡ r.end - 1 = omega (arith, fits.0) in
    ends_in_at (word_in source r) n long ∙ ap (λ (b : ℕ). eqb b 92) (get_or-part source r.start r.end n (omega (arith, fits.0)) ∙ ap (λ (k : ℕ). get_or source k 0) at)

shortened_word : (source : List ℕ) (r : ByteRange) → IsRange (length source) r → shortened (word_in source r) ≡ words_in source (range_if r.start (r.end - 1))
shortened_word source r fits =
    let n : length (word_in source r) - 1 ≡ r.end - 1 - r.start = ap (λ (k : ℕ). k - 1) (length-part source r.start r.end (omega (arith, fits.0)) fits.1) ∙ omega (arith, fits.0) in
    let front : take (length (word_in source r) - 1) (word_in source r) ≡ slice_range source r.start (r.end - 1) =
    ap (λ (k : ℕ). take k (word_in source r)) n ∙ take-take (r.end - 1 - r.start) (r.end - r.start) (drop r.start source) (omega arith) in
    ap (λ (w : List ℕ). filter is_filled (w ∷ [])) front ∙ filter-part source r.start (r.end - 1) [] (omega (arith, fits.0)) (omega (arith, fits.1)) ∙ append-nil (words_in source (range_if r.start (r.end - 1)))

-- the ranges from `first` on, with their last
pub record HasLast (source : List ℕ) (old : List ByteRange) (first last : ℕ) (r : ByteRange) : Type 0 where
  pub front : List ByteRange
  pub rest : drop first old ≡ front ++ r ∷ []
  pub before : take last old ≡ take first old ++ front
  pub whole : old ≡ take last old ++ r ∷ []
  pub front_fits : All (IsRange (length source)) front
  pub last_fits : IsRange (length source) r

pub has_last : (source : List ℕ) (old : List ByteRange) (first last : ℕ) (r : ByteRange) → first ≤ last → length old ≡ last + 1 → r ≡ get_or old last r → All (IsRange (length source)) (drop first old) → HasLast source old first last r
has_last source old first last r le long read fits =
    let whole : old ≡ take last old ++ r ∷ [] =
    sym (take_all (last + 1) old (omega (arith, long))) ∙ take_more old last r (omega (arith, long)) ∙ ap (λ (x : ByteRange). take last old ++ x ∷ []) (sym read) in
    let rest : drop first old ≡ drop first (take last old) ++ r ∷ [] =
    ap (drop first) whole ∙ drop-append-le first (take last old) (r ∷ []) (omega (arith, length-take last old, long)) in
    let len : length (drop first (take last old)) ≡ last - first = simp (length-drop, length-take) (omega (arith, long)) in
    let both = subst (All (IsRange (length source))) rest fits in
    record {
      front = drop first (take last old);
      rest = rest;
      before = sym (take-append-drop first (take last old)) ∙ ap (λ (l : List ByteRange). l ++ drop first (take last old)) (take-take first last old le);
      whole = whole;
      front_fits = subst (All (IsRange (length source))) (take_at (drop first (take last old)) (r ∷ []) (last - first) len) (All-take (IsRange (length source)) (last - first) (drop first (take last old) ++ r ∷ []) both);
      last_fits = subst (IsRange (length source)) (sym read) (
          let at : first + (last - first) ≡ last = omega arith in
          subst (IsRange (length source)) (get_or-drop first old (last - first) r ∙ ap (λ (k : ℕ). get_or old k r) at) (fits (last - first) r (omega (arith, length-drop first old, long))));
    }

words-push : (source : List ℕ) (front : List ByteRange) (r : ByteRange) → words_in source (front ++ r ∷ []) ≡ words_in source front ++ word_in source r ∷ []
words-push source front r = map-append (word_in source) front (r ∷ [])

answer_at : (source : List ℕ) (old : List ByteRange) (first last : ℕ) (r : ByteRange) → HasLast source old first last r → goes_on (words_in source (drop first old)) ≡ eqb (get_or source (r.end - 1) 0) 92
answer_at source old first last r h =
    ap (λ (l : List ByteRange). goes_on (words_in source l)) h.rest ∙ ap goes_on (words-push source h.front r) ∙ goes_on-push (words_in source h.front) (word_in source r) ∙ ends_in_word source r h.last_fits

pub GivesUp-no : (source : List ℕ) (old : List ByteRange) (first last : ℕ) (r : ByteRange) → HasLast source old first last r → eqb (get_or source (r.end - 1) 0) 92 ≡ false → GivesUp source first old old false
GivesUp-no source old first last r h keeps =
    let answer : goes_on (words_in source (drop first old)) ≡ false = answer_at source old first last r h ∙ keeps in
    record {
      answer = sym answer;
      left = record {
        added = drop first old;
        whole = sym (take-append-drop first old);
        fits = subst (All (IsRange (length source))) (sym h.rest) (All-append (IsRange (length source)) h.front (r ∷ []) h.front_fits (All-cons (IsRange (length source)) r [] h.last_fits (All-nil (IsRange (length source)))));
        words = sym (ap (λ (b : Bool). cond b (given_up (words_in source (drop first old))) (words_in source (drop first old))) answer);
      };
    }

pub GivesUp-yes : (source : List ℕ) (old new : List ByteRange) (first last : ℕ) (r : ByteRange) → HasLast source old first last r → eqb (get_or source (r.end - 1) 0) 92 ≡ true
    → new ≡ take last old ++ range_if r.start (r.end - 1) → GivesUp source first old new true
GivesUp-yes source old new first last r h ends e =
    let answer : goes_on (words_in source (drop first old)) ≡ true = answer_at source old first last r h ∙ ends in
    let left : given_up (words_in source (drop first old)) ≡ words_in source h.front ++ words_in source (range_if r.start (r.end - 1)) =
    ap (λ (l : List ByteRange). given_up (words_in source l)) h.rest ∙ ap given_up (words-push source h.front r) ∙ given_up-push (words_in source h.front) (word_in source r)
    ∙ ap (λ (l : List (List ℕ)). words_in source h.front ++ l) (shortened_word source r h.last_fits) in
    record {
      answer = sym answer;
      left = record {
        added = h.front ++ range_if r.start (r.end - 1);
        whole = e ∙ ap (λ (l : List ByteRange). l ++ range_if r.start (r.end - 1)) h.before ∙ append_assoc (take first old) h.front (range_if r.start (r.end - 1));
        fits = All-append (IsRange (length source)) h.front (range_if r.start (r.end - 1)) h.front_fits (range_if_fits (length source) r.start (r.end - 1) (let f = h.last_fits.1 in omega arith));
        words = map-append (word_in source) h.front (range_if r.start (r.end - 1)) ∙ sym left ∙ sym (ap (λ (b : Bool). cond b (given_up (words_in source (drop first old))) (words_in source (drop first old))) answer);
      };
    }

-- the last range without its last byte
pub last_dropped : (old : List ByteRange) (last : ℕ) (r : ByteRange) → r.start ≡ r.end - 1 → take last old ≡ take last old ++ range_if r.start (r.end - 1)
last_dropped old last r e =
    sym (append-nil (take last old)) ∙ ap (λ (b : Bool). take last old ++ cond b (record { start = r.start; end = r.end - 1 } ∷ []) []) (sym (le-ltb r.start (r.end - 1) (omega (arith, e))))

pub last_shortened : (old : List ByteRange) (last : ℕ) (r : ByteRange) → length old ≡ last + 1 → r.start < r.end - 1 → set old last (record { start = r.start; end = r.end - 1 }) ≡ take last old ++ range_if r.start (r.end - 1)
last_shortened old last r long lt =
    set_split old last (record { start = r.start; end = r.end - 1 }) (omega (arith, long))
    ∙ ap (λ (l : List ByteRange). take last old ++ (record { start = r.start; end = r.end - 1 } ∷ l)) (drop_all (suc last) old (omega (arith, long)))
    ∙ ap (λ (b : Bool). take last old ++ cond b (record { start = r.start; end = r.end - 1 } ∷ []) []) (sym (lt-ltb r.start (r.end - 1) lt))

-- ---- a physical line

-- the text before the comment
pub text_of_line : (source : List ℕ) (from to end : ℕ) → from ≤ to → to ≤ length source → end ≡ from + position_or_len is_comment_sign (slice_range source from to)
    → slice_range source from end ≡ before_first is_comment_sign (slice_range source from to)
text_of_line source from to end a b e =
    let pos = position_or_len is_comment_sign (slice_range source from to) in
    let len = length-part source from to a b in
    let bound : pos ≤ to - from = omega (arith, prefix_len-le-length (λ x. not (is_comment_sign x)) (slice_range source from to), len) in
    let n : end - from ≡ pos = omega (arith, e) in
    ap (λ (k : ℕ). take k (drop from source)) n ∙ sym (take-take pos (to - from) (drop from source) bound)

pub added_fit : (source : List ℕ) (old new : List ByteRange) (n : ℕ) (ws : List (List ℕ)) → n ≡ length old → Adds source old new ws → All (IsRange (length source)) (drop n new)
added_fit source old new n ws e a = subst (All (IsRange (length source))) (sym (ap (drop n) a.whole ∙ drop_at old a.added n (sym e))) a.fits

pub AddsLine-made : (source : List ℕ) (old mid new : List ByteRange) (line text : List ℕ) (result : Bool) → text ≡ before_first is_comment_sign line
    → Adds source old mid (words_between text) → GivesUp source (length old) mid new result → AddsLine source old new line result
AddsLine-made source old mid new line text result e a g =
    let rest : drop (length old) mid ≡ a.added = ap (drop (length old)) a.whole ∙ drop_at old a.added (length old) refl in
    let front : take (length old) mid ≡ old = ap (take (length old)) a.whole ∙ take_at old a.added (length old) refl in
    let words : words_in source (drop (length old) mid) ≡ words_on line = ap (words_in source) rest ∙ a.words ∙ ap words_between e in
    record {
      answer = g.answer ∙ ap goes_on words;
      left = record {
        added = g.left.added;
        whole = g.left.whole ∙ ap (λ (l : List ByteRange). l ++ g.left.added) front;
        fits = g.left.fits;
        words = g.left.words ∙ ap words_left words;
      };
    }
