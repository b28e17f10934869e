use Rattle.std.proofs.Common.{ap, arith, length, slice_index}
use Rattle.wavefront.proofs.Wanted.{is_sink_at}
use Rattle.group_wave.proofs.wave.Wave.took_all.Goals as goal

pub starts_at-requires : goal.starts_at-requires
starts_at-requires g c =
    let at = ap (λ xs. slice_index xs c.loop-at.at) c.sinks-sinks.ensures in
    let size = ap (λ xs. length xs) c.sinks-sinks.ensures in
    let wanted = is_sink_at c.args.ground.now.space c.loop-at.at (omega (arith, size, c.loop-at-test.true, c.min-at-end.ensures)) in
    omega (arith, at, c.requires.ground.space.sinks_in _ wanted, c.requires.rows)
