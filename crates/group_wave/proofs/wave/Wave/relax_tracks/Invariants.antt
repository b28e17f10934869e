use Rattle.std.proofs.Common.{◌<◌}
use Rattle.group_wave.specs.kept.Steps.{RelaxesSome}
use Rattle.group_wave.proofs.wave.Wave.relax_tracks.Given as goal

-- those that were taken out are offered the way
abbrev pub invariant-loop-left : goal.invariant-loop-left
invariant-loop-left g l = record {
  some : RelaxesSome l.ground l.fn.self l.self (g.K.Key.value l.fn.offer.label) (g.K.Key.value l.fn.step.least) l.fn.step.group l.fn.tracks l.left l.fresh;
  fits : 0 < l.fresh → g.K.Key.value l.fn.step.least < g.K.Key.greatest;
}

abbrev pub decreases-loop-left : goal.decreases-loop-left
decreases-loop-left g l = l.left
