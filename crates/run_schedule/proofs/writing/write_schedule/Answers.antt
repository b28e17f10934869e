use Rattle.std.proofs.Common.{rules}
use Rattle.run_schedule.specs.ScheduleTexts.{head_text, schedule_text}
use Rattle.run_schedule.proofs.Printed.{schedule_filled, written}
use Rattle.run_schedule.proofs.writing.write_schedule.Goals as goal

pub returns : goal.returns
returns g c =
    let head = head_text c.args.head.now in
    let printed = rw c.as_slice.ensures at c.put_schedule.ensures in
    written c.new-printer.ensures printed c.finish.ensures.prints (search rules)
    c.finish.result c.finish.ensures.empty c.finish.ensures.broken (schedule_filled head c.args.trials.now)
