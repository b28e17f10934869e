use Rattle.std.proofs.Common.{ap, arith, slice_index, length}
use Rattle.wavefront.proofs.Wanted.{is_sink_at}
use Rattle.group_wave.proofs.Aimed.{least_all, least_first, least_more}
use Rattle.group_wave.proofs.wave.Wave.least_cost.Goals as goal
use Rattle.group_wave.proofs.Kept.{far}

pub loop-sink-init : goal.loop-sink-init
loop-sink-init g c = record {
  least = least_first c.args.ground.now c.args.self.now _ (far g.K.Key.greatest _ (omega (arith, c.greatest-least.ensures)));
  fits = omega (arith, c.greatest-least.ensures);
}

pub nearer-least-requires-clause-there : goal.nearer-least-requires-clause-there
nearer-least-requires-clause-there g c = rw c.sinks-sink-items.ensures (omega (arith, c.requires.ground.space.sinks_in _ (is_sink_at c.args.ground.now.space c.loop-sink.sink-index (rw c.sinks-sink-items.ensures at c.loop-sink-test.true)), c.requires.wave.rows))

pub loop-sink-preserved : goal.loop-sink-preserved
loop-sink-preserved g c =
    let at = ap (λ xs. slice_index xs c.loop-sink.sink-index) c.sinks-sink-items.ensures in
    let wanted = is_sink_at c.args.ground.now.space c.loop-sink.sink-index (rw c.sinks-sink-items.ensures at c.loop-sink-test.true) in
    record {
      least = least_more c.args.ground.now c.args.self.now c.loop-sink.sink-index _ _ wanted c.loop-sink.invariant.least (rw at at c.nearer-least.ensures.nearer);
      fits = c.nearer-least.ensures.fits;
    }

pub returns-clause-least : goal.returns-clause-least
returns-clause-least g c =
    let all = ap length c.sinks-sink-items.ensures in
    least_all c.args.ground.now c.args.self.now c.loop-sink.sink-index _ (omega (arith, all, c.loop-sink-test.false)) c.loop-sink.invariant.least
