-- A quotient that is rounded up.
use Rattle.std.proofs.Common.{◌≡◌, ℕ, ◌+◌, ◌-◌, ◌*◌, ◌/◌, ◌<◌, ◌≤◌, zero, suc, sym, ap, ◌∙◌, arith}
use Rattle.std.proofs.Math.Nat.{div-lt_iff_lt-mul, div-zero}
use Rattle.width_bound.specs.CutNets.{least_width}

-- it is no greater than what is enough
pub rounded_up : (nets pins places width : ℕ) → nets ≤ pins + width * places → least_width nets pins places ≤ width
rounded_up nets pins zero width l = omega (arith, div-zero ((nets - pins) + (zero - 1)))
rounded_up nets pins (suc places) width l =
    let some : 0 < suc places = omega arith in
    let below : (nets - pins) + (suc places - 1) < (width + 1) * suc places = omega arith in
    omega (arith, (div-lt_iff_lt-mul some).1 below)

-- where there is no place it is none
pub no_places : (nets pins places : ℕ) → places ≡ 0 → 0 ≡ least_width nets pins places
no_places nets pins places e = sym (ap (λ p. ((nets - pins) + (p - 1)) / p) e ∙ div-zero ((nets - pins) + (0 - 1)))
