use Rattle.std.proofs.Common.{◌≡◌}
use Rattle.std.specs.Prelude.{drop}
use Rattle.wavefront.specs.Boxes.{box_with}
use Rattle.wave_ground.specs.kept.Boxes.{boxed}
use Rattle.wave_ground.proofs.boxes.BoundingBox.with.Given as goal

abbrev pub invariant-loop-node : goal.invariant-loop-node
invariant-loop-node l = box_with l.device (boxed l.around) (drop l.node-index l.nodes) ≡ box_with l.device (boxed l.fn.self) l.nodes
