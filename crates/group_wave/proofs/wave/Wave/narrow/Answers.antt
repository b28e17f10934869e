use Rattle.group_wave.proofs.Aimed.{narrowed_more}
use Rattle.group_wave.proofs.wave.Wave.narrow.Goals as goal

pub loop-left-preserved : goal.loop-left-preserved
loop-left-preserved g c = record {
  narrowed = narrowed_more c.args.ground.now c.args.self.now c.loop-left.self c.narrow_at.new.self c.loop-left.invariant.narrowed c.narrow_at.ensures.narrowed;
  within = c.narrow_at.ensures.boxes;
}
