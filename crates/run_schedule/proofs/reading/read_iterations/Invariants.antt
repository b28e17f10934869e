use Rattle.std.proofs.Common.{length}
use Rattle.run_schedule.proofs.Trying.{ReadsTrial}
use Rattle.run_schedule.proofs.reading.read_iterations.Given as goal

abbrev pub invariant-loop-alloc : goal.invariant-loop-alloc
invariant-loop-alloc l = ReadsTrial l.nets l.workers l.width l.number l.initial.text l.text l.trial

abbrev pub decreases-loop-alloc : goal.decreases-loop-alloc
decreases-loop-alloc l = length l.text
