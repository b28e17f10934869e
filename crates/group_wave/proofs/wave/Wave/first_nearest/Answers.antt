use Rattle.std.proofs.Common.{length, ap, arith}
use Rattle.std.specs.Prelude.{slice_index}
use Rattle.group_wave.specs.kept.Steps.{IsNearest}
use Rattle.group_wave.proofs.Nearests.{none_all, none_with, one_found}
use Rattle.group_wave.proofs.wave.Wave.first_nearest.Goals as goal

pub loop-sink-preserved : goal.loop-sink-preserved
loop-sink-preserved g c = record {
  some = c.with_nearest-first.ensures.some;
  none = none_with c.loop-sink.first c.with_nearest-first.result (IsNearest c.args.ground.now c.args.self.now) c.args.ground.now.space.net.sinks c.loop-sink.sink-index _ (ap (λ xs. slice_index xs c.loop-sink.sink-index) c.sinks-sink-items.ensures) c.loop-sink.invariant.none c.with_nearest-first.ensures.before c.with_nearest-first.ensures.none;
}

pub returns-clause-none : goal.returns-clause-none
returns-clause-none g c =
    let size = ap (λ xs. length xs) c.sinks-sink-items.ensures in
    one_found c.args.ground.now c.args.self.now c.loop-sink.first c.requires.best c.requires.reached (none_all c.loop-sink.first (IsNearest c.args.ground.now c.args.self.now) c.args.ground.now.space.net.sinks c.loop-sink.sink-index (omega (arith, size, c.loop-sink-test.false)) c.loop-sink.invariant.none)
