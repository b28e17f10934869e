use Rattle.text_output.proofs.Printing.{prints_then}
use Rattle.run_schedule.specs.ScheduleTexts.{head_text}
use Rattle.run_schedule.proofs.head.put_head.Goals as goal

pub returns : goal.returns
unfolding head_text
returns g c =
    prints_then c.put_run.ensures (prints_then c.put_amount.ensures (prints_then c.put_options.ensures c.put_amount-2.ensures))
