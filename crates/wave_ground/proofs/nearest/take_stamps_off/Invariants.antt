use Rattle.std.proofs.Common.{◌≡◌, length}
use Rattle.wave_ground.proofs.SightRows.{AreOff}
use Rattle.wave_ground.proofs.nearest.take_stamps_off.Given as goal

abbrev pub invariant-loop-at : goal.invariant-loop-at
invariant-loop-at l = (length l.known.items ≡ length l.fn.known.items) × AreOff l.known.items l.at
