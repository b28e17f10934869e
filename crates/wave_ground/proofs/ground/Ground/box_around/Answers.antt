use Rattle.std.proofs.Common.{ap, ◌∙◌}
use Rattle.wavefront.specs.Boxes.{box_around}
use Rattle.wave_ground.specs.kept.Boxes.{boxed}
use Rattle.wave_ground.proofs.Around.{around_first, around_more}
use Rattle.wave_ground.proofs.ground.Ground.box_around.Goals as goal

pub loop-at-init : goal.loop-at-init
loop-at-init c = around_first c.args.self.now.space.device c.args.self.now.space.net.sinks c.args.from _ (rw c.sinks-sinks.ensures at c.box_of-around.ensures)

pub loop-at-preserved : goal.loop-at-preserved
loop-at-preserved c = around_more c.args.self.now.space.device c.args.self.now.space.net.sinks c.args.from c.loop-at.at _ _ c.loop-at.invariant (c.around-around.ensures ∙ ap (box_around (boxed c.loop-at.around)) (rw c.sinks-sinks.ensures at c.box_of.ensures))
