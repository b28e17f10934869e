use Rattle.std.proofs.Common.{◌≤◌}
use Rattle.group_wave.specs.kept.Labels.{widened}
use Rattle.group_wave.proofs.Aimed.{IsLeastBefore}
use Rattle.group_wave.proofs.wave.Wave.least_cost.Given as goal

abbrev pub invariant-loop-sink : goal.invariant-loop-sink
invariant-loop-sink g l = record {
  least : IsLeastBefore l.ground l.self l.sink-index (widened g.K.Key.greatest (g.K.Key.value l.least));
  fits : g.K.Key.value l.least ≤ g.K.Key.greatest;
}
