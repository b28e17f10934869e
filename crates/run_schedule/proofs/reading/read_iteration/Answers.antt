use Rattle.run_schedule.proofs.Trying.{no_title, turns_after_title}
use Rattle.run_schedule.proofs.reading.read_iteration.Goals as goal

pub returns-then-is_none : goal.returns-then-is_none
returns-then-is_none c = no_title c.min-most.ensures c.take_within.ensures c.if-is_none.ensures

pub returns : goal.returns
returns c = turns_after_title c.min-most.ensures c.take_within.ensures c.if-is_none.ensures c.read_turns.ensures
