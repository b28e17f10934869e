use Rattle.std.proofs.Common.{ap, arith, length, slice_index}
use Rattle.wavefront.proofs.Wanted.{is_sink_at}
use Rattle.group_wave.proofs.Aimed.{around_left_all, around_left_more}
use Rattle.group_wave.proofs.wave.Wave.box_left.Goals as goal

pub around_if_left-around-requires : goal.around_if_left-around-requires
around_if_left-around-requires g c =
    let at = ap (λ xs. slice_index xs c.loop-at.at) c.sinks-sinks.ensures in
    let size = ap (λ xs. length xs) c.sinks-sinks.ensures in
    let wanted = is_sink_at c.args.ground.now.space c.loop-at.at (omega (arith, size, c.loop-at-test.true, c.min-at-end.ensures)) in
    omega (arith, at, c.requires.ground.space.sinks_in _ wanted, c.requires.rows)

pub loop-at-preserved : goal.loop-at-preserved
loop-at-preserved g c =
    let at = ap (λ xs. slice_index xs c.loop-at.at) c.sinks-sinks.ensures in
    around_left_more c.args.ground.now c.args.self.now c.args.from c.loop-at.at _ _ c.loop-at.invariant c.around_if_left-around.ensures.first (rw at at c.around_if_left-around.ensures.second)

pub returns : goal.returns
returns g c =
    let size = ap (λ xs. length xs) c.sinks-sinks.ensures in
    around_left_all c.args.ground.now c.args.self.now c.args.from c.loop-at.at c.args.until _ c.loop-at.invariant (λ p high less. omega (arith, high, less, size, c.loop-at-test.false, c.min-at-end.ensures))
