use Rattle.std.proofs.Common.{length}
use Rattle.run_schedule.proofs.Trying.{ReadsRun}
use Rattle.run_schedule.proofs.reading.read_trials.Given as goal

abbrev pub invariant-loop-alloc : goal.invariant-loop-alloc
invariant-loop-alloc l = ReadsRun l.nets l.workers l.initial.text l.text l.trials

abbrev pub decreases-loop-alloc : goal.decreases-loop-alloc
decreases-loop-alloc l = length l.text
