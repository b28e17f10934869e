use Rattle.std.proofs.Common.{refl}
use Rattle.wavefront.proofs.Wanted.{wanted}
use Rattle.wave_ground.proofs.ground.is_one_of.Goals as goal

pub returns : goal.returns
returns c = wanted c.args.numbers.now c.args.numbers.now c.args.number c.binary_search.result c.is_ok.result c.requires refl c.binary_search.ensures.position c.is_ok.ensures.value
