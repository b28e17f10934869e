use Rattle.std.proofs.Common.{take}
use Rattle.text_output.specs.Printing.{PrintsTo}
use Rattle.run_schedule.specs.ScheduleTexts.{trials_text}
use Rattle.run_schedule.proofs.writing.put_trials.Given as goal

-- the trials so far were printed
abbrev pub invariant-loop-trial : goal.invariant-loop-trial
invariant-loop-trial g l =
    PrintsTo g.W.ByteSink l.initial.out l.out (trials_text (take l.trial-index l.trials))
