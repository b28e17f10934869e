use Rattle.run_schedule.proofs.Heading.{no_program, run_passed}
use Rattle.run_schedule.proofs.schedule.pass_title.Goals as goal

pub returns-in_err-pass_line : goal.returns-in_err-pass_line
returns-in_err-pass_line c = rw c.from_residual.ensures (no_program c.in_err-pass_line.ensures)

pub returns : goal.returns
returns c = run_passed c.in_ok-pass_line.ensures c.pass_line-2.ensures
