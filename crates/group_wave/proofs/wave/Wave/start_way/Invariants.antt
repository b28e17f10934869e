use Rattle.std.specs.Prelude.{◌≤◌, drop, length}
use Rattle.group_wave.specs.kept.Steps.{IsStarted}
use Rattle.group_wave.proofs.wave.Wave.start_way.Given as goal

abbrev pub invariant-loop-left : goal.invariant-loop-left
invariant-loop-left g l = record {
  within : l.left ≤ length l.way;
  started : IsStarted l.ground l.fn.self l.self (drop l.left l.way);
}

abbrev pub decreases-loop-left : goal.decreases-loop-left
decreases-loop-left g l = l.left
