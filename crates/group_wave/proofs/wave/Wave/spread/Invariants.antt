use Rattle.std.proofs.Common.{◌+◌, ◌*◌}
use Rattle.group_wave.specs.kept.Wave.{work_of}
use Rattle.group_wave.specs.kept.Steps.{Settles}
use Rattle.group_wave.proofs.wave.Wave.spread.Given as goal

abbrev pub invariant-loop-entry : goal.invariant-loop-entry
invariant-loop-entry g l = Settles l.ground l.fn.self l.self

abbrev pub decreases-loop-entry : goal.decreases-loop-entry
decreases-loop-entry g l = work_of l.self + 3 * l.waited
