use Rattle.std.proofs.Common.{rules, w64}
use Rattle.std.proofs.lemmas.Nat.Bits.{bit_at-trailing_zeros}
use Rattle.wave_queue.proofs.bits.lowest_bit.Goals as goal

pub returns-clause-one : goal.returns-clause-one
returns-clause-one c = (bit_at-trailing_zeros w64 c.args.bits c.requires (search rules)).1

pub returns-clause-first : goal.returns-clause-first
returns-clause-first c = (bit_at-trailing_zeros w64 c.args.bits c.requires (search rules)).2
