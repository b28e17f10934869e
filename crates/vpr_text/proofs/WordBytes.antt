-- What the words of a text consist of.
use Rattle.std.proofs.Common.{◌≡◌, ℕ, ◌+◌, ◌-◌, ◌<◌, Bool, true, false, cond, not, ◌||◌, List, [], ◌∷◌, ◌++◌, length, take, All, Option, None, Some, Result, Ok, Err, refl, ap, subst, ◌∙◌, arith}
use Rattle.std.specs.Prelude.{filter}
use Rattle.std.specs.List.{AllByRecursion, slice_split, onto_first, before_first, list_any, position_from, position_or_len}
use Rattle.std.proofs.lemmas.List.{length-take, get_or-take}
use Rattle.std.proofs.lemmas.List.Elements.{All-from_recursion, recursion_from_All, All-take}
use Rattle.std.proofs.lemmas.List.Sums.{fails_before_first}
use Rattle.std.proofs.lemmas.Bool.{or_parts}
use Rattle.vpr_text.specs.declared.fault.TextFault.{TextFault}
use Rattle.vpr_text.specs.Words.{Line, is_line_feed, is_separator, is_comment_sign, is_filled, has_words, words_on, goes_on, shortened, given_up, continued, lines_from, words_of}
use Rattle.vpr_text.specs.Text.{is_bad, is_word_byte, IsWord, bad_line_from, lines_or_bad, lines_of}
use Rattle.vpr_text.specs.kept.Split.{HaveWords}

-- ---- of lists

both : {X : Type 0} (P Q : X → Type 0) (xs : List X) → AllByRecursion P xs → AllByRecursion Q xs → AllByRecursion (λ x. P x × Q x) xs
both P Q [] h k = tt
both P Q (x ∷ xs) h k = ((h.0, k.0), both P Q xs h.1 k.1)

weaker : {X : Type 0} (P Q : X → Type 0) (xs : List X) → ((x : X) → P x → Q x) → AllByRecursion P xs → AllByRecursion Q xs
weaker P Q [] f h = tt
weaker P Q (x ∷ xs) f h = (f x h.0, weaker P Q xs f h.1)

pub each_joined : {X : Type 0} (P : X → Type 0) (xs ys : List X) → AllByRecursion P xs → AllByRecursion P ys → AllByRecursion P (xs ++ ys)
each_joined P [] ys h k = k
each_joined P (x ∷ xs) ys h k = (h.0, each_joined P xs ys h.1 k)

taken : {X : Type 0} (P : X → Type 0) (n : ℕ) (xs : List X) → AllByRecursion P xs → AllByRecursion P (take n xs)
taken P n xs h = recursion_from_All P (take n xs) (All-take P n xs (All-from_recursion P xs h))

kept_by : {X : Type 0} (P : X → Type 0) (test : X → Bool) (x : X) (xs : List X) (b : Bool) → test x ≡ b → P x → AllByRecursion (λ x. (test x ≡ true) × P x) xs
    → AllByRecursion (λ x. (test x ≡ true) × P x) (cond b (x ∷ xs) xs)
kept_by P test x xs true e here rest = ((e, here), rest)
kept_by P test x xs false e here rest = rest

-- what a filter keeps passes
kept : {X : Type 0} (P : X → Type 0) (test : X → Bool) (xs : List X) → AllByRecursion P xs → AllByRecursion (λ x. (test x ≡ true) × P x) (filter test xs)
kept P test [] h = tt
kept P test (x ∷ xs) h = kept_by P test x (filter test xs) (test x) refl h.0 (kept P test xs h.1)

-- ---- parts

-- the elements of each part, at none of which was cut
abbrev InParts : {X : Type 0} → (X → Type 0) → (X → Bool) → List (List X) → Type 0
InParts P cuts parts = AllByRecursion (λ part. AllByRecursion (λ x. P x × (cuts x ≡ false)) part) parts

in_first : {X : Type 0} (P : X → Type 0) (cuts : X → Bool) (x : X) (parts : List (List X)) → P x → cuts x ≡ false → InParts P cuts parts → InParts P cuts (onto_first x parts)
in_first P cuts x [] here e h = (((here, e), tt), tt)
in_first P cuts x (part ∷ parts) here e h = (((here, e), h.0), h.1)

in_parts_by : {X : Type 0} (P : X → Type 0) (cuts : X → Bool) (x : X) (parts : List (List X)) (b : Bool) → cuts x ≡ b → P x → InParts P cuts parts → InParts P cuts (cond b ([] ∷ parts) (onto_first x parts))
in_parts_by P cuts x parts true e here h = (tt, h)
in_parts_by P cuts x parts false e here h = in_first P cuts x parts here e h

in_parts : {X : Type 0} (P : X → Type 0) (cuts : X → Bool) (xs : List X) → AllByRecursion P xs → InParts P cuts (slice_split cuts xs)
in_parts P cuts [] h = (tt, tt)
in_parts P cuts (x ∷ xs) h = in_parts_by P cuts x (slice_split cuts xs) (cuts x) refl h.0 (in_parts P cuts xs h.1)

before_none : (test : ℕ → Bool) (xs : List ℕ) → AllByRecursion (λ x. test x ≡ false) (before_first test xs)
before_none test xs = recursion_from_All (λ x. test x ≡ false) (before_first test xs) (λ k d lt.
    let within : k < position_or_len test xs = omega (arith, lt, length-take (position_or_len test xs) xs) in
    ap test (get_or-take (position_or_len test xs) xs k d within) ∙ fails_before_first test xs k d within)

-- ---- words

-- a byte of a physical line of a text without bad bytes
abbrev IsFine : ℕ → Type 0
IsFine b = (is_line_feed b ≡ false) × (is_bad b ≡ false)

-- a word as the lemmas here have it
abbrev Spells : List ℕ → Type 0
Spells w = (is_filled w ≡ true) × AllByRecursion (λ b. is_word_byte b ≡ true) w

word_byte : (separates ends begins bad : Bool) → separates ≡ false → ends ≡ false → begins ≡ false → bad ≡ false → not (separates || ends || begins || bad) ≡ true
word_byte separates ends begins bad s e c b = rw (s, e, c, b) refl

spelled_on : (line : List ℕ) → AllByRecursion IsFine line → AllByRecursion Spells (words_on line)
spelled_on line fine =
    let text = before_first is_comment_sign line in
    let bytes = both IsFine (λ b. is_comment_sign b ≡ false) text (taken IsFine (position_or_len is_comment_sign line) line fine) (before_none is_comment_sign line) in
    let parts = in_parts (λ b. IsFine b × (is_comment_sign b ≡ false)) is_separator text bytes in
    let pieces = weaker _ (λ piece. AllByRecursion (λ b. is_word_byte b ≡ true) piece) (slice_split is_separator text)
    (λ piece h. weaker _ (λ b. is_word_byte b ≡ true) piece (λ b e. word_byte (is_separator b) (is_line_feed b) (is_comment_sign b) (is_bad b) e.1 e.0.0.0 e.0.1 e.0.0.1) h) parts in
    kept (λ w. AllByRecursion (λ b. is_word_byte b ≡ true) w) is_filled (slice_split is_separator text) pieces

spelled_shortened : (w : List ℕ) → Spells w → AllByRecursion Spells (shortened w)
spelled_shortened w h = kept (λ v. AllByRecursion (λ b. is_word_byte b ≡ true) v) is_filled (take (length w - 1) w ∷ []) (taken (λ b. is_word_byte b ≡ true) (length w - 1) w h.1, tt)

spelled_given_up : (ws : List (List ℕ)) → AllByRecursion Spells ws → AllByRecursion Spells (given_up ws)
spelled_given_up [] h = tt
spelled_given_up (w ∷ []) h = spelled_shortened w h.0
spelled_given_up (w ∷ v ∷ ws) h = (h.0, spelled_given_up (v ∷ ws) h.1)

-- ---- lines

abbrev AreSpelled : List Line → Type 0
AreSpelled ls = AllByRecursion (λ l. AllByRecursion Spells l.words) ls

spelled_continued : (n : ℕ) (ws : List (List ℕ)) (ls : List Line) → AllByRecursion Spells ws → AreSpelled ls → AreSpelled (continued n ws ls)
spelled_continued n ws [] h k = (h, tt)
spelled_continued n ws (l ∷ ls) h k = (each_joined Spells ws l.words h k.0, k.1)

spelled_next : (n : ℕ) (ws : List (List ℕ)) (ls : List Line) (b : Bool) → AllByRecursion Spells ws → AreSpelled ls → AreSpelled (cond b (continued n (given_up ws) ls) (record { number = n; words = ws } ∷ ls))
spelled_next n ws ls true h k = spelled_continued n (given_up ws) ls (spelled_given_up ws h) k
spelled_next n ws ls false h k = (h, k)

spelled_from : (n : ℕ) (ps : List (List ℕ)) → AllByRecursion (λ p. AllByRecursion IsFine p) ps → AreSpelled (lines_from n ps)
spelled_from n [] h = tt
spelled_from n (p ∷ ps) h = spelled_next n (words_on p) (lines_from (n + 1) ps) (goes_on (words_on p)) (spelled_on p h.0) (spelled_from (n + 1) ps h.1)

none_passes : (test : List ℕ → Bool) (n : ℕ) (ps : List (List ℕ)) → position_from test n ps ≡ None → AllByRecursion (λ p. test p ≡ false) ps
none_passes test n [] e = tt
none_passes test n (p ∷ ps) e = by (test p) refl e (λ rest. none_passes test (n + 1) ps rest)
  where
    by : (b : Bool) → test p ≡ b → cond b (Some n) (position_from test (n + 1) ps) ≡ None → (position_from test (n + 1) ps ≡ None → AllByRecursion (λ p. test p ≡ false) ps) → AllByRecursion (λ p. test p ≡ false) (p ∷ ps)
    by true is none rest = absurd cc
    by false is none rest = (is, rest none)

no_bad : (bytes : List ℕ) → list_any is_bad bytes ≡ false → AllByRecursion (λ b. is_bad b ≡ false) bytes
no_bad [] e = tt
no_bad (b ∷ bs) e = let each = or_parts (is_bad b) (list_any is_bad bs) e in (each.0, no_bad bs each.1)

fine_lines : (bytes : List ℕ) → bad_line_from 1 bytes ≡ None → AllByRecursion (λ p. AllByRecursion IsFine p) (slice_split is_line_feed bytes)
fine_lines bytes e =
    let ps = slice_split is_line_feed bytes in
    let cut = in_parts (λ b. Unit {0}) is_line_feed bytes (any bytes) in
    let good = none_passes (list_any is_bad) 1 ps e in
    weaker _ (λ p. AllByRecursion IsFine p) ps
    (λ p h. weaker _ IsFine p (λ b k. (k.0.1, k.1)) (both _ (λ b. is_bad b ≡ false) p h.0 (no_bad p h.1)))
    (both _ (λ p. list_any is_bad p ≡ false) ps cut good)
  where
    any : (bs : List ℕ) → AllByRecursion (λ b. Unit {0}) bs
    any [] = tt
    any (b ∷ bs) = (tt, any bs)

split_of : (bad : Option ℕ) (bytes : List ℕ) (ls : List Line) → lines_or_bad bad bytes ≡ Ok ls → (bad ≡ None) × (words_of bytes ≡ ls)
split_of None bytes ls e = (refl, cc)
split_of (Some n) bytes ls e = absurd cc

short_of : (long : Bool) (r : Result (List Line) TextFault) (fault : TextFault) (ls : List Line) → cond long (Err fault) r ≡ Ok ls → r ≡ Ok ls
short_of true r fault ls e = absurd cc
short_of false r fault ls e = e

is_word : (w : List ℕ) → Spells w → IsWord w
is_word w h = record { filled = h.0; bytes = All-from_recursion (λ b. is_word_byte b ≡ true) w h.1 }

-- the lines of a text consist of words
pub lines_have_words : (bytes : List ℕ) (ls : List Line) → lines_of bytes ≡ Ok ls → HaveWords ls
unfolding lines_of
lines_have_words bytes ls e =
    let split = split_of (bad_line_from 1 bytes) bytes ls (short_of _ (lines_or_bad (bad_line_from 1 bytes) bytes) _ ls e) in
    let each = spelled_from 1 (slice_split is_line_feed bytes) (fine_lines bytes split.0) in
    let left = kept (λ l. AllByRecursion Spells l.words) has_words (lines_from 1 (slice_split is_line_feed bytes)) each in
    let all : AllByRecursion (λ l. All IsWord l.words) (words_of bytes) =
    weaker _ (λ l. All IsWord l.words) (words_of bytes) (λ l h. All-from_recursion IsWord l.words (weaker Spells IsWord l.words is_word h.1)) left in
    subst (All (λ l. All IsWord l.words)) split.1 (All-from_recursion (λ l. All IsWord l.words) (words_of bytes) all)
