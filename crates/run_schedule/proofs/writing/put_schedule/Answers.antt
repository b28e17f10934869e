use Rattle.text_output.proofs.Printing.{prints_then}
use Rattle.run_schedule.specs.ScheduleTexts.{schedule_text}
use Rattle.run_schedule.proofs.writing.put_schedule.Goals as goal

pub returns : goal.returns
unfolding schedule_text
returns g c = prints_then c.put_head.ensures (prints_then c.push.ensures (prints_then c.put_trials.ensures c.push-2.ensures))
