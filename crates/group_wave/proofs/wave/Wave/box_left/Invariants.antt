use Rattle.wave_ground.specs.kept.Boxes.{boxed}
use Rattle.group_wave.specs.kept.Starts.{IsAroundLeft}
use Rattle.group_wave.proofs.wave.Wave.box_left.Given as goal

abbrev pub invariant-loop-at : goal.invariant-loop-at
invariant-loop-at g l = IsAroundLeft l.ground l.self l.from l.at (boxed l.around)
