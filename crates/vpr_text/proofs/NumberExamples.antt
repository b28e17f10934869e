-- Words whose numbers are known.
use Rattle.std.proofs.Common.{◌≡◌, [], ◌∷◌, Some, None, true, false, refl}
use Rattle.vpr_text.specs.Numbers.{number_of, fixed_of, is_decimal}

-- '4294967295', '4294967296', '0012' and no byte
greatest : number_of (52 ∷ 50 ∷ 57 ∷ 52 ∷ 57 ∷ 54 ∷ 55 ∷ 50 ∷ 57 ∷ 53 ∷ []) ≡ Some 4294967295
greatest = refl

too_great : number_of (52 ∷ 50 ∷ 57 ∷ 52 ∷ 57 ∷ 54 ∷ 55 ∷ 50 ∷ 57 ∷ 54 ∷ []) ≡ None
too_great = refl

zeros : number_of (48 ∷ 48 ∷ 49 ∷ 50 ∷ []) ≡ Some 12
zeros = refl

nothing : number_of [] ≡ None
nothing = refl

-- '0.25', '1.', '.5', '1.0000000001' and '.'
quarter : fixed_of (48 ∷ 46 ∷ 50 ∷ 53 ∷ []) ≡ Some 250000000
quarter = refl

one : fixed_of (49 ∷ 46 ∷ []) ≡ Some 1000000000
one = refl

half : fixed_of (46 ∷ 53 ∷ []) ≡ Some 500000000
half = refl

ten_decimals : fixed_of (49 ∷ 46 ∷ 48 ∷ 48 ∷ 48 ∷ 48 ∷ 48 ∷ 48 ∷ 48 ∷ 48 ∷ 48 ∷ 49 ∷ []) ≡ None
ten_decimals = refl

point : fixed_of (46 ∷ []) ≡ None
point = refl

-- '-1.5e-12', '1e' and '1.2.3'
small : is_decimal (45 ∷ 49 ∷ 46 ∷ 53 ∷ 101 ∷ 45 ∷ 49 ∷ 50 ∷ []) ≡ true
small = refl

no_exponent : is_decimal (49 ∷ 101 ∷ []) ≡ false
no_exponent = refl

two_points : is_decimal (49 ∷ 46 ∷ 50 ∷ 46 ∷ 51 ∷ []) ≡ false
two_points = refl
