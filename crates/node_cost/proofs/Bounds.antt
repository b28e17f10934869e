-- Costs stay below 2^80.
use Rattle.std.proofs.Common.{ℕ, ◌+◌, ◌*◌, ◌<◌, ◌≤◌, ◌^◌, arith}
use Rattle.std.proofs.Math.Nat.{mul-le-mul}

pub factor_bounded : (present excess : ℕ) → present ≤ 1048576 → excess ≤ 65536 → 16 + present * excess ≤ 2 ^ 37
factor_bounded p e hp he = let h : p * e ≤ 1048576 * 65536 = mul-le-mul hp he in omega (arith, h)

pub cost_bounded : (price factor : ℕ) → price ≤ 2 ^ 42 + 20 → factor ≤ 2 ^ 37 → price * factor < 2 ^ 80
cost_bounded a b ha hb = let h : a * b ≤ (2 ^ 42 + 20) * 2 ^ 37 = mul-le-mul ha hb in omega (arith, h)
