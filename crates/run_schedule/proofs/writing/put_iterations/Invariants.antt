use Rattle.std.proofs.Common.{take}
use Rattle.text_output.specs.Printing.{PrintsTo}
use Rattle.run_schedule.specs.ScheduleTexts.{iterations_text}
use Rattle.run_schedule.proofs.writing.put_iterations.Given as goal

-- the iterations so far were printed
abbrev pub invariant-loop-index : goal.invariant-loop-index
invariant-loop-index g l =
    PrintsTo g.W.ByteSink l.initial.out l.out (iterations_text 1 (take l.index l.iterations))
