-- Division by a multiplication (Granlund and Montgomery 1994).
use Rattle.std.specs.Prelude.{◌+◌, ◌*◌, ◌<◌, ◌≤◌}
use Rattle.node_numbers.specs.declared.divisor.Divisor.TheInside as divisor

-- the factor is the least number that is above 2^63 divided by the divisor
pub record IsDivisor (d : divisor.Inside) : Type 0 where
  pub some : 1 ≤ d.number
  pub few : d.number ≤ 2147483648
  pub above : 9223372036854775808 < d.factor * d.number
  pub least : d.factor * d.number ≤ 9223372036854775808 + d.number
