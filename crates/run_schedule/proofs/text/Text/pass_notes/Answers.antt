use Rattle.std.proofs.Common.{arith}
use Rattle.run_schedule.proofs.Notes.{passes_all, passes_no_more, passes_one_more}
use Rattle.run_schedule.proofs.text.Text.pass_notes.Goals as goal

pub loop-preserved : goal.loop-preserved
loop-preserved c = passes_one_more c.loop.invariant c.loop-test.true c.in_ok-pass_line.ensures

pub returns-in_err-pass_line : goal.returns-in_err-pass_line
returns-in_err-pass_line c = rw c.from_residual.ensures (passes_no_more c.loop.invariant c.loop-test.true c.in_err-pass_line.ensures)

pub returns : goal.returns
returns c = passes_all c.loop.invariant (omega (arith, c.loop.auto.counter-end, c.loop-test.false))
