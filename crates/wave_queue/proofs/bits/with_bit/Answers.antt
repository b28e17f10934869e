use Rattle.wave_queue.proofs.TrackBits.{bit_put}
use Rattle.wave_queue.proofs.bits.with_bit.Goals as goal

pub returns : goal.returns
returns c = bit_put c.args.bits c.args.bit c.requires
