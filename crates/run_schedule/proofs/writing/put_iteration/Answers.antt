use Rattle.text_output.proofs.Printing.{prints_then}
use Rattle.run_schedule.specs.ScheduleTexts.{iteration_text}
use Rattle.run_schedule.proofs.writing.put_iteration.Goals as goal

pub returns : goal.returns
unfolding iteration_text
returns g c = prints_then c.put_numbered.ensures c.put_turns.ensures
