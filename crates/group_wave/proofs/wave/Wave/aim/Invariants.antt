use Rattle.std.proofs.Common.{◌-◌}
use Rattle.group_wave.proofs.Aimed.{IsAiming}
use Rattle.group_wave.proofs.wave.Wave.aim.Given as goal

abbrev pub invariant-loop-from : goal.invariant-loop-from
invariant-loop-from g l = IsAiming l.ground l.fn.self l.self l.from

abbrev pub decreases-loop-from : goal.decreases-loop-from
decreases-loop-from g l = l.sinks - l.from
