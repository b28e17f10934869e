use Rattle.std.proofs.Common.{arith}
use Rattle.wave_ground.proofs.LooksAtOnce.{shared}
use Rattle.wave_ground.proofs.eight_boxes.wires_over.Goals as goal

pub returns : goal.returns
returns c = rw c.from-2.ensures (shared c.args.steps c.args.share c.from.result c.args.places c.requires (omega (arith, c.from.ensures, c.min.ensures)) (let n = c.requires.few in omega (arith, n, c.from.ensures, c.min.ensures)))
