use Rattle.std.specs.Prelude.{◌-◌, length}
use Rattle.iteration.specs.Progress.{IsReached}
use Rattle.iteration.proofs.negotiation.run.Given as goal

abbrev pub invariant-loop-alloc : goal.invariant-loop-alloc
invariant-loop-alloc g l = IsReached l.fn.problem l.settings l.workers (g.G.Gate.accepted l.gate) l.negotiation

abbrev pub decreases-loop-alloc : goal.decreases-loop-alloc
decreases-loop-alloc g l = l.settings.iterations - length l.negotiation.rows
