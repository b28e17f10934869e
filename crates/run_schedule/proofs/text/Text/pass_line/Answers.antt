use Rattle.std.proofs.Common.{sym, ◌∙◌}
use Rattle.run_schedule.proofs.Taken.{line_passed, no_line}
use Rattle.run_schedule.proofs.text.Text.pass_line.Goals as goal

pub returns-in_err-end : goal.returns-in_err-end
returns-in_err-end c =
    rw c.from_residual-in_err-end.ensures (no_line c.args.front.now c.args.self.now c.in_ok-line.line.now (sym c.self.view_is ∙ c.in_ok-line.ensures) (sym c.in_err-end.ensures))

pub returns : goal.returns
returns c =
    rw c.split_at.ensures.back (line_passed c.args.front.now c.args.self.now c.in_ok-line.line.now (sym c.self.view_is ∙ c.in_ok-line.ensures) c.in_ok-end.end (sym c.in_ok-end.ensures))
