-- The numbers of a text. This project's profile.
use Rattle.std.specs.Prelude.{ℕ, ◌+◌, ◌-◌, ◌*◌, ◌^◌, Bool, true, ◌&&◌, ◌||◌, ◌==◌, nat_lt, nat_le, if◌then◌else◌, List, [], ◌∷◌, ◌++◌, length, Option, None, Some, fold}
use Rattle.std.specs.List.{list_all, list_any, before_first, after_first}
use Rattle.vpr_text.specs.Words.{is_filled}

abbrev pub is_digit : ℕ → Bool
is_digit b = nat_le 48 b && nat_le b 57

-- the number that is spelled by digits after those of n
abbrev pub value_after : ℕ → List ℕ → ℕ
value_after n digits = fold (λ m b. m * 10 + (b - 48)) n digits

abbrev pub value_of : List ℕ → ℕ
value_of digits = value_after 0 digits

-- one or more digits
abbrev pub is_whole : List ℕ → Bool
is_whole word = is_filled word && list_all is_digit word

-- digits whose value fits in a `u32`
abbrev pub number_of : List ℕ → Option ℕ
number_of word = if is_whole word && nat_lt (value_of word) (2 ^ 32) then Some (value_of word) else None

abbrev pub is_point : ℕ → Bool
is_point b = b == 46

-- the digits before and after the point
abbrev pub decimals_of : List ℕ → List ℕ
decimals_of word = after_first is_point word

abbrev pub digits_of : List ℕ → List ℕ
digits_of word = before_first is_point word ++ decimals_of word

-- digits with at most one point, and at least one digit
abbrev pub is_pointed : List ℕ → Bool
is_pointed word = is_whole (digits_of word)

-- the value in units of 10^-9, where there are at most nine decimals
abbrev pub units_of : List ℕ → ℕ
units_of word = value_of (digits_of word) * 10 ^ (9 - length (decimals_of word))

-- digits with at most one point, whose value in units of 10^-9 fits in a `u64`
abbrev pub fixed_of : List ℕ → Option ℕ
fixed_of word = if is_pointed word && nat_le (length (decimals_of word)) 9 && nat_lt (units_of word) (2 ^ 64) then Some (units_of word) else None

-- what follows a sign, if there is one
abbrev pub without_sign : List ℕ → List ℕ
without_sign [] = []
without_sign (b ∷ bs) = if (b == 43) || (b == 45) then bs else (b ∷ bs)

abbrev pub is_exponent_sign : ℕ → Bool
is_exponent_sign b = (b == 101) || (b == 69)

-- an optional sign and digits
abbrev pub is_exponent : List ℕ → Bool
is_exponent word = is_whole (without_sign word)

-- digits with at most one point, and an optional exponent
abbrev pub is_unsigned : List ℕ → Bool
is_unsigned word =
    is_pointed (before_first is_exponent_sign word)
    && (if list_any is_exponent_sign word then is_exponent (after_first is_exponent_sign word) else true)

-- an optional sign, digits with at most one point, and an optional exponent
abbrev pub is_decimal : List ℕ → Bool
is_decimal word = is_unsigned (without_sign word)
