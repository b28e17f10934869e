use Rattle.std.proofs.Common.{subst}
use Rattle.run_schedule.specs.kept.Taking.{TakesSome}
use Rattle.run_schedule.proofs.Heading.{head_taken, IsHeadOf}
use Rattle.run_schedule.proofs.schedule.read_head.Goals as goal

pub returns : goal.returns
returns c =
    let title = rw c.in_ok-ok_or.ensures.ok_part at c.pass_title.ensures in
    subst (TakesSome IsHeadOf c.args.text.now c.take_counts.new.text) c.ok_or-2.ensures.ok_part (head_taken title c.take_counts.ensures)
