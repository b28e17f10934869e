use Rattle.text_output.proofs.Printing.{prints_then}
use Rattle.run_schedule.specs.ScheduleTexts.{run_text}
use Rattle.run_schedule.proofs.head.put_run.Goals as goal

pub returns : goal.returns
unfolding run_text
returns g c =
    prints_then c.put_entry.ensures (prints_then c.put_entry-2.ensures (prints_then c.put_entry-3.ensures (prints_then c.put_entry-4.ensures c.put_entry-5.ensures)))
