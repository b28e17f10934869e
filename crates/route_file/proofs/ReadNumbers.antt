-- Numbers that are printed are read.
use Rattle.std.proofs.Common.{◌≡◌, ℕ, ◌^◌, ◌<◌, ◌≤◌, true, Some, decimal, refl, arith, rules}
use Rattle.std.specs.List.{list_all}
use Rattle.std.proofs.lemmas.Bool.{lt-ltb}
use Rattle.std.proofs.lemmas.Bool.Decides.{nat_tests}
use Rattle.std.proofs.lemmas.Fmt.{digits_value-decimal}
use Rattle.std.proofs.lemmas.Str.Parse.{IsNumeralModel, numerals_by_fold}
use Rattle.vpr_text.specs.Numbers.{is_digit, value_after, value_of, number_of}
use Rattle.route_file.proofs.PlainWords.{plain_number, all_of_number}

is_digit_byte : (b : ℕ) → 48 ≤ b → b ≤ 57 → is_digit b ≡ true
is_digit_byte b low high = grind (arith, nat_tests)

own : IsNumeralModel (λ ds. list_all is_digit ds ≡ true) value_of
own = numerals_by_fold _ (search rules) value_after (search rules)

pub number_read : (n : ℕ) → n < 2 ^ 32 → number_of (decimal n) ≡ Some n
number_read n h =
    let wide : n < 2 ^ 64 = omega arith in
    let value : value_of (decimal n) ≡ n = digits_value-decimal own n wide in
    rw ((plain_number n wide).filled, all_of_number is_digit n wide is_digit_byte, value, lt-ltb n (2 ^ 32) h) refl
