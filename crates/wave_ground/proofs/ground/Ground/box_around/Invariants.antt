use Rattle.wave_ground.specs.kept.Boxes.{boxed}
use Rattle.wave_ground.proofs.Around.{IsAround}
use Rattle.wave_ground.proofs.ground.Ground.box_around.Given as goal

abbrev pub invariant-loop-at : goal.invariant-loop-at
invariant-loop-at l = IsAround l.self.space.device l.self.space.net.sinks l.from l.at (boxed l.around)
