-- A product with the factor of a divisor tells how often the divisor goes into a number.
use Rattle.std.proofs.Common.{◌≡◌, ℕ, ◌+◌, ◌*◌, ◌/◌, ◌<◌, ◌≤◌, inl, inr, arith}
use Rattle.std.proofs.lemmas.Bool.{cases_lt}
use Rattle.std.proofs.Math.Nat.{div-add-mod, mod-lt, mul-le-mul, mul-le-mul_left, lt_of_mul-lt-mul_left, div-lt_iff_lt-mul}

pub factor_made : (n : ℕ) → 1 ≤ n → (9223372036854775808 < (9223372036854775808 / n + 1) * n) × ((9223372036854775808 / n + 1) * n ≤ 9223372036854775808 + n)
factor_made n some =
    let whole = div-add-mod 9223372036854775808 n in
    (omega (arith, whole, mod-lt 9223372036854775808 some), omega (arith, whole))

-- a divisor d and its factor f
module _ (d f : ℕ) (some : 1 ≤ d) (few : d ≤ 2147483648) (above : 9223372036854775808 < f * d) (least : f * d ≤ 9223372036854775808 + d) where
  under : (n : ℕ) → n < 4294967296 → n * f < (n / d + 1) * 9223372036854775808
  under n small =
      let top : n * (f * d) ≤ n * (9223372036854775808 + d) = mul-le-mul_left n least in
      let slack : n * d ≤ 4294967295 * 2147483648 = (let most : n ≤ 4294967295 = omega (arith, small) in mul-le-mul most few) in
      let next : n + 1 ≤ d * (n / d + 1) = omega (arith, div-add-mod n d, mod-lt n some) in
      let wide : 9223372036854775808 * (n + 1) ≤ 9223372036854775808 * (d * (n / d + 1)) = mul-le-mul_left 9223372036854775808 next in
      lt_of_mul-lt-mul_left d (omega (arith, top, slack, wide))

  over : (n : ℕ) → n / d * 9223372036854775808 ≤ n * f
  over n = elim (cases_lt (n * f) (n / d * 9223372036854775808)) [
    | inl less ↦
        let step : n * f + 1 ≤ n / d * 9223372036854775808 = omega (arith, less) in
        let low : d * (n * f + 1) ≤ d * (n / d * 9223372036854775808) = mul-le-mul_left d step in
        let whole : 9223372036854775808 * (d * (n / d)) ≤ 9223372036854775808 * n = mul-le-mul_left 9223372036854775808 (omega (arith, div-add-mod n d)) in
        let top : n * 9223372036854775808 ≤ n * (f * d) = mul-le-mul_left n (omega (arith, above)) in
        absurd (omega (arith, low, whole, top, some))
    | inr more ↦ omega (arith, more)
  ]

  pub quotient_is : (n : ℕ) → n < 4294967296 → n * f / 9223372036854775808 ≡ n / d
  quotient_is n small =
      let some_scale : 0 < 9223372036854775808 = omega arith in
      let next : n * f / 9223372036854775808 < n / d + 1 = (div-lt_iff_lt-mul some_scale).1 (under n small) in
      elim (cases_lt (n * f / 9223372036854775808) (n / d)) [
        | inl less ↦ absurd (omega (arith, (div-lt_iff_lt-mul some_scale).0 less, over n))
        | inr more ↦ omega (arith, more, next)
      ]
