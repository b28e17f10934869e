use Rattle.std.proofs.Common.{arith}
use Rattle.wave_ground.proofs.LooksAtOnce.{nearer}
use Rattle.wave_ground.proofs.eight_boxes.first_short.Goals as goal

pub returns : goal.returns
returns c = nearer 0 _ _ _ _ _ c.gap_at.ensures c.gap_beside.ensures (omega (arith, c.numbered.ensures, c.short_wires-wires.ensures))
