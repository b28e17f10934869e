use Rattle.std.proofs.Common.{ap, arith, length}
use Rattle.group_wave.specs.kept.WaveState.{Wave}
use Rattle.group_wave.proofs.wave.Wave.rank.Goals as goal

pub sink_cost-requires-clause-node_in : goal.sink_cost-requires-clause-node_in
sink_cost-requires-clause-node_in g c = c.requires.ground.space.sinks_in c.args.sink c.requires.sink.0

pub row-requires : goal.row-requires
row-requires g c = let lt = c.requires.ground.space.sinks_in c.args.sink c.requires.sink.0 in let rows = c.requires.wave.rows in let same = ap (λ (w : Wave). length w.labels) c.self.view_is in omega (arith, lt, rows, same)
