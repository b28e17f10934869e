use Rattle.std.proofs.Common.{take}
use Rattle.text_output.specs.Printing.{PrintsTo}
use Rattle.run_schedule.specs.ScheduleTexts.{turns_text}
use Rattle.run_schedule.proofs.writing.put_turns.Given as goal

-- the turns so far were printed
abbrev pub invariant-loop-turn : goal.invariant-loop-turn
invariant-loop-turn g l =
    PrintsTo g.W.ByteSink l.initial.out l.out (turns_text (take l.turn-index l.turns))
