-- The words of a line of which the words are known.
use Rattle.std.proofs.Common.{◌≡◌, ℕ, suc, ◌+◌, ◌^◌, ◌<◌, ◌≤◌, Bool, true, false, cond, not, ◌&&◌, ◌||◌, List, [], ◌∷◌, ◌++◌, length, take, get_or, All, decimal, refl, sym, ap, ◌∙◌, arith, one-add, append-nil, ◌==◌}
use Rattle.std.specs.Prelude.{filter}
use Rattle.std.specs.List.{AllByRecursion, slice_split, before_first, list_all, position_or_len}
use Rattle.std.proofs.lemmas.Bool.{false≢true, and_parts}
use Rattle.std.proofs.lemmas.Bool.Decides.{nat_tests}
use Rattle.std.proofs.lemmas.Fmt.{decimal_is_IsNumeral, decimal_nonempty}
use Rattle.std.proofs.lemmas.Str.Parse.{digit_at}
use Rattle.std.proofs.lemmas.List.Elements.{All-from_recursion}
use Rattle.std.proofs.lemmas.List.Folds.{list_all-append}
use Rattle.std.proofs.lemmas.List.Splits.{slice_split_at, slice_split_none}
use Rattle.vpr_text.specs.Words.{is_line_feed, is_comment_sign, is_separator, is_filled, words_between, words_on, ends_in_backslash}
use Rattle.vpr_text.specs.Text.{is_bad}

-- a byte that neither separates words nor ends a line nor begins a comment, and isn't bad
abbrev pub is_plain : ℕ → Bool
is_plain b = not (is_separator b || is_line_feed b || is_comment_sign b || is_bad b)

abbrev pub are_plain : List ℕ → Bool
are_plain bytes = list_all is_plain bytes

-- a byte at which no line ends, and that isn't bad
abbrev pub is_fine : ℕ → Bool
is_fine b = not (is_line_feed b || is_bad b)

abbrev pub are_fine : List ℕ → Bool
are_fine bytes = list_all is_fine bytes

-- some bytes, all of them plain
pub record IsPlain (word : List ℕ) : Type 0 where
  pub filled : is_filled word ≡ true
  pub plain : are_plain word ≡ true

-- ---- tests

none_of : (a b c d : Bool) → not (a || b || c || d) ≡ true → (a ≡ false) × (b ≡ false) × (c ≡ false) × (d ≡ false)
none_of true b c d e = absurd (false≢true e)
none_of false true c d e = absurd (false≢true e)
none_of false false true d e = absurd (false≢true e)
none_of false false false true e = absurd (false≢true e)
none_of false false false false e = (refl, refl, refl, refl)

pub plain_byte : (b : ℕ) → is_plain b ≡ true → (is_separator b ≡ false) × (is_line_feed b ≡ false) × (is_comment_sign b ≡ false) × (is_bad b ≡ false)
plain_byte b e = none_of (is_separator b) (is_line_feed b) (is_comment_sign b) (is_bad b) e

fine_byte : (b : ℕ) → is_plain b ≡ true → is_fine b ≡ true
fine_byte b e = let h = plain_byte b e in ap (λ t. not (t || is_bad b)) h.1 ∙ ap (λ t. not t) h.3

pub all_weaker : (p q : ℕ → Bool) (xs : List ℕ) → ((x : ℕ) → p x ≡ true → q x ≡ true) → list_all p xs ≡ true → list_all q xs ≡ true
all_weaker p q [] f e = refl
all_weaker p q (x ∷ xs) f e =
    let h = and_parts (p x) (list_all p xs) e in
    ap (λ t. t && list_all q xs) (f x h.0) ∙ all_weaker p q xs f h.1

pub all_append : (p : ℕ → Bool) (xs ys : List ℕ) → list_all p xs ≡ true → list_all p ys ≡ true → list_all p (xs ++ ys) ≡ true
all_append p xs ys e f = list_all-append p xs ys ∙ (ap (λ t. t && list_all p ys) e ∙ f)

pub fine_plain : (xs : List ℕ) → are_plain xs ≡ true → are_fine xs ≡ true
fine_plain xs e = all_weaker is_plain is_fine xs fine_byte e

-- ---- lines

pub cons_before : (p : ℕ → Bool) (x : ℕ) (xs : List ℕ) → p x ≡ false → before_first p (x ∷ xs) ≡ x ∷ before_first p xs
cons_before p x xs e =
    ap (λ t. take (cond (not t) (1 + position_or_len p xs) 0) (x ∷ xs)) e ∙ ap (λ n. take n (x ∷ xs)) (one-add (position_or_len p xs))

pub before_plain : (w rest : List ℕ) → are_plain w ≡ true → before_first is_comment_sign (w ++ rest) ≡ w ++ before_first is_comment_sign rest
before_plain [] rest e = refl
before_plain (b ∷ w) rest e =
    let h = and_parts (is_plain b) (are_plain w) e in
    cons_before is_comment_sign b (w ++ rest) (plain_byte b h.0).2 ∙ ap (λ s. b ∷ s) (before_plain w rest h.1)

none_cut : (w : List ℕ) → are_plain w ≡ true → AllByRecursion (λ b. is_separator b ≡ false) w
none_cut [] e = tt
none_cut (b ∷ w) e = let h = and_parts (is_plain b) (are_plain w) e in ((plain_byte b h.0).0, none_cut w h.1)

apart : (w : List ℕ) → are_plain w ≡ true → All (λ b. is_separator b ≡ false) w
apart w e = All-from_recursion (λ b. is_separator b ≡ false) w (none_cut w e)

pub kept_word : (w : List ℕ) (parts : List (List ℕ)) → is_filled w ≡ true → filter is_filled (w ∷ parts) ≡ w ∷ filter is_filled parts
kept_word w parts e = ap (λ t. cond t (w ∷ filter is_filled parts) (filter is_filled parts)) e

-- a blank is passed over
pub blank_then : (rest : List ℕ) → words_on (32 ∷ rest) ≡ words_on rest
blank_then rest = ap words_between (cons_before is_comment_sign 32 rest refl)

-- a word ends at a blank
pub word_then : (w rest : List ℕ) → IsPlain w → words_on (w ++ 32 ∷ rest) ≡ w ∷ words_on rest
word_then w rest h =
    ap words_between (before_plain w (32 ∷ rest) h.plain ∙ ap (λ s. w ++ s) (cons_before is_comment_sign 32 rest refl))
    ∙ (ap (filter is_filled) (slice_split_at is_separator w 32 (before_first is_comment_sign rest) (apart w h.plain) refl)
    ∙ kept_word w (slice_split is_separator (before_first is_comment_sign rest)) h.filled)

alone : (w : List ℕ) → IsPlain w → words_between w ≡ w ∷ []
alone w h = ap (filter is_filled) (slice_split_none is_separator w (apart w h.plain)) ∙ kept_word w [] h.filled

-- a word at the end
pub word_last : (w : List ℕ) → IsPlain w → words_on w ≡ w ∷ []
word_last w h = ap words_on (sym (append-nil w)) ∙ (ap words_between (before_plain w [] h.plain ∙ append-nil w) ∙ alone w h)

-- a word before a comment
pub word_comment : (w rest : List ℕ) → IsPlain w → words_on (w ++ 35 ∷ rest) ≡ w ∷ []
word_comment w rest h = ap words_between (before_plain w (35 ∷ rest) h.plain ∙ append-nil w) ∙ alone w h

-- ---- numbers

is_digit_byte : (b : ℕ) → 48 ≤ b → b ≤ 57 → is_plain b ≡ true
is_digit_byte b low high = grind (arith, nat_tests)

all_digits : (p : ℕ → Bool) (ds : List ℕ) → ((b : ℕ) → 48 ≤ b → b ≤ 57 → p b ≡ true) → ((i : ℕ) → i < length ds → (48 ≤ get_or ds i 0) × (get_or ds i 0 ≤ 57)) → list_all p ds ≡ true
all_digits p [] f h = refl
all_digits p (d ∷ ds) f h =
    let first = h 0 (omega arith) in
    ap (λ t. t && list_all p ds) (f d first.0 first.1) ∙ all_digits p ds f (λ i l. h (suc i) (omega arith))

-- a test that all digits pass holds for all bytes of a number
pub all_of_number : (p : ℕ → Bool) (n : ℕ) → n < 2 ^ 64 → ((b : ℕ) → 48 ≤ b → b ≤ 57 → p b ≡ true) → list_all p (decimal n) ≡ true
all_of_number p n h f = all_digits p (decimal n) f (λ i l. digit_at (decimal n) i (decimal_is_IsNumeral n h).0.1 l)

filled_by : (xs : List ℕ) → 0 < length xs → is_filled xs ≡ true
filled_by [] h = absurd (omega arith)
filled_by (x ∷ xs) h = refl

pub plain_number : (n : ℕ) → n < 2 ^ 64 → IsPlain (decimal n)
plain_number n h = record {
  filled = filled_by (decimal n) (decimal_nonempty n h);
  plain = all_of_number is_plain n h is_digit_byte;
}

-- ---- backslashes

not_true : (t : Bool) → (not t && true) ≡ true → t ≡ false
not_true true e = absurd (false≢true e)
not_true false e = refl

no_backslash : (w : List ℕ) → list_all (λ b. not (b == 92)) w ≡ true → ends_in_backslash w ≡ false
no_backslash [] e = refl
no_backslash (b ∷ []) e = not_true (b == 92) e
no_backslash (b ∷ c ∷ w) e = no_backslash (c ∷ w) (and_parts (not (b == 92)) (list_all (λ b. not (b == 92)) (c ∷ w)) e).1

digit_no_backslash : (b : ℕ) → 48 ≤ b → b ≤ 57 → not (b == 92) ≡ true
digit_no_backslash b low high = grind (arith, nat_tests)

pub number_ends : (n : ℕ) → n < 2 ^ 64 → ends_in_backslash (decimal n) ≡ false
number_ends n h = no_backslash (decimal n) (all_of_number (λ b. not (b == 92)) n h digit_no_backslash)

pub closed : (w : List ℕ) (b : ℕ) → ends_in_backslash (w ++ b ∷ []) ≡ (b == 92)
closed [] b = refl
closed (c ∷ []) b = refl
closed (c ∷ d ∷ w) b = closed (d ∷ w) b
