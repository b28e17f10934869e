use Rattle.std.proofs.Common.{arith, length, sym}
use Rattle.std.proofs.lemmas.List.Sums.{position_or_len_is}
use Rattle.vpr_text.specs.Words.{is_comment_sign}
use Rattle.refusals.proofs.location.comment_in.Goals as goal

pub returns-then-text-place-eq35-clause-place : goal.returns-then-text-place-eq35-clause-place
returns-then-text-place-eq35-clause-place c =
    sym (position_or_len_is is_comment_sign c.args.text.now c.loop-place.place 0
    (omega (arith, c.loop-place-test.true)) c.loop-place.invariant
    (λ _. grind (arith, c.if-text-place-eq35.true)))

pub returns-clause-place : goal.returns-clause-place
returns-clause-place c =
    sym (position_or_len_is is_comment_sign c.args.text.now (length c.args.text.now) 0 (omega arith)
    (λ k h. c.loop-place.invariant k (omega (arith, h, c.loop-place-test.false)))
    (λ h. absurd (omega (arith, h))))
