use Rattle.std.proofs.Common.{rules, refl}
use Rattle.wave_queue.proofs.TrackBits.{bit_taken, fewer_left}
use Rattle.wave_queue.proofs.bits.take_bit.Goals as goal

pub returns-clause-taken : goal.returns-clause-taken
returns-clause-taken c = bit_taken c.args.bits.now _ c.requires (search rules) refl

pub returns-clause-fewer : goal.returns-clause-fewer
returns-clause-fewer c = fewer_left c.args.bits.now _ (bit_taken c.args.bits.now _ c.requires (search rules) refl)
