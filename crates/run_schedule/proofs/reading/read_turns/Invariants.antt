use Rattle.std.proofs.Common.{length}
use Rattle.run_schedule.proofs.Turning.{ReadsTurns}
use Rattle.run_schedule.proofs.reading.read_turns.Given as goal

abbrev pub invariant-loop-text : goal.invariant-loop-text
invariant-loop-text l = ReadsTurns l.nets l.workers l.initial.text l.text l.made

abbrev pub decreases-loop-text : goal.decreases-loop-text
decreases-loop-text l = length l.text
