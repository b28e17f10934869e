use Rattle.std.specs.Prelude.{IfNone, IfSome}
use Rattle.group_wave.specs.kept.Steps.{IsNearest}
use Rattle.group_wave.proofs.Nearests.{NoneBefore}
use Rattle.group_wave.proofs.wave.Wave.first_nearest.Given as goal

abbrev pub invariant-loop-sink : goal.invariant-loop-sink
invariant-loop-sink g l = record {
  some : IfSome l.first (IsNearest l.ground l.self);
  none : IfNone l.first (NoneBefore (IsNearest l.ground l.self) l.ground.space.net.sinks l.sink-index);
}
