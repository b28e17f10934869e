-- Numbers that are printed are read.
use Rattle.std.proofs.Common.{◌≡◌, ℕ, ◌^◌, ◌<◌, Bool, true, false, not, List, [], ◌∷◌, length, Some, decimal, eqb, refl, sym, ap, ◌∙◌, arith, rules}
use Rattle.std.specs.List.{list_all, list_any}
use Rattle.std.proofs.lemmas.Bool.{and_parts, false≢true, lt-ltb, not_from_true, or_from}
use Rattle.std.proofs.lemmas.Bool.Decides.{Decides-eqb}
use Rattle.std.proofs.lemmas.Fmt.{decimal_nonempty, digits_decimal, digits_value-decimal}
use Rattle.std.proofs.lemmas.Option.{same_Some}
use Rattle.std.proofs.lemmas.Slice.Eq.{slice_eq-Decides}
use Rattle.std.specs.Cmp.Lexicographic.{pointwise}
use Rattle.std.proofs.lemmas.Str.Parse.{IsNumeralModel, numerals_by_fold}
use Rattle.vpr_text.specs.Words.{is_filled}
use Rattle.vpr_text.specs.Numbers.{is_digit, value_after, value_of, number_of}

own : IsNumeralModel (λ ds. list_all is_digit ds ≡ true) value_of
own = numerals_by_fold _ (search rules) value_after (search rules)

filled : (bytes : List ℕ) → 0 < length bytes → is_filled bytes ≡ true
filled [] some = absurd (omega (arith, some))
filled (b ∷ bs) some = refl

all_digits : (n : ℕ) → n < 2 ^ 64 → list_all is_digit (decimal n) ≡ true
all_digits n h = digits_decimal own n h

pub number_read : (n : ℕ) → n < 2 ^ 32 → number_of (decimal n) ≡ Some n
number_read n h =
    let wide : n < 2 ^ 64 = omega arith in
    let value : value_of (decimal n) ≡ n = digits_value-decimal own n wide in
    rw (filled (decimal n) (decimal_nonempty n wide), all_digits n wide, value, lt-ltb n (2 ^ 32) h) refl

none_but : (bytes : List ℕ) → list_all is_digit bytes ≡ true → list_any (λ b. not (is_digit b)) bytes ≡ false
none_but [] all = refl
none_but (b ∷ bs) all = let parts = and_parts (is_digit b) (list_all is_digit bs) all in or_from (not (is_digit b)) _ (not_from_true (is_digit b) parts.0) (none_but bs parts.1)

-- all bytes of a number are digits
pub no_others : (n : ℕ) → n < 2 ^ 32 → list_any (λ b. not (is_digit b)) (decimal n) ≡ false
no_others n h = none_but (decimal n) (all_digits n (omega arith))

-- a number that is read from its digits is printed as these
pub printed_again : (digits printed : List ℕ) (n k : ℕ) (differs : Bool) → n < 2 ^ 32 → digits ≡ decimal n → Some k ≡ number_of digits → printed ≡ decimal k
    → differs ≡ not (pointwise eqb printed digits) → differs ≡ true → ⊥
printed_again digits printed n k differs small is read again tested apart =
    let same : k ≡ n = same_Some k n (read ∙ (ap number_of is ∙ number_read n small)) in
    let equal : printed ≡ digits = again ∙ (ap decimal same ∙ sym is) in
    let passes = (slice_eq-Decides Decides-eqb printed digits (pointwise eqb printed digits) refl).1 equal in
    false≢true (sym (not_from_true (pointwise eqb printed digits) passes) ∙ (sym tested ∙ apart))
