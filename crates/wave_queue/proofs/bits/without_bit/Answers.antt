use Rattle.wave_queue.proofs.TrackBits.{bit_dropped}
use Rattle.std.proofs.Common.{rules}
use Rattle.wave_queue.proofs.bits.without_bit.Goals as goal

pub returns : goal.returns
returns c = bit_dropped c.args.bits c.args.bit (search rules) c.requires
