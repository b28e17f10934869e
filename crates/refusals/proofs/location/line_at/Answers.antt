use Rattle.std.proofs.Common.{◌==◌, arith}
use Rattle.vpr_text.specs.Words.{no_line}
use Rattle.refusals.proofs.Places.{position_is, position_none}
use Rattle.refusals.proofs.location.line_at.Goals as goal

pub returns-then-at-number-clause-index : goal.returns-then-at-number-clause-index
returns-then-at-number-clause-index c =
    position_is (λ line. line.number == c.args.number) c.args.lines.now c.loop-line.line no_line
    (omega (arith, c.loop-line-test.true, c.len-line-end.ensures)) c.loop-line.invariant
    (grind (arith, c.if-at-number.true, c.at.ensures))

pub returns-clause-index : goal.returns-clause-index
returns-clause-index c =
    position_none (λ line. line.number == c.args.number) c.args.lines.now no_line
    (λ k h. c.loop-line.invariant k (omega (arith, h, c.loop-line-test.false, c.len-line-end.ensures)))
