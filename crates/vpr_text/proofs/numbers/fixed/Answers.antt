use Rattle.std.proofs.Common.{sym, subst, ◌*◌, ◌^◌, ◌<◌, ◌∙◌}
use Rattle.std.specs.Prelude.{SomeIff}
use Rattle.vpr_text.proofs.Spelled.{fixed_is, fixed-no_whole, fixed-no_decimals, fixed_product, filled_left, filled_right, cond_none, value_before}
use Rattle.vpr_text.proofs.numbers.fixed.Goals as goal
use Rattle.vpr_text.proofs.numbers.fixed.Goals.{else-is_empty-via-then-is_empty+else-is_empty-2, else-is_empty-via-else-is_empty}

pub returns-in_err-value : goal.returns-in_err-value
returns-in_err-value c =
    let whole = c.around_point.result.0.now in
    let decimals = c.around_point.result.1.now in
    fixed_is c.args.word.now whole decimals _ c.around_point.ensures.before c.around_point.ensures.after
    (c.from_residual.ensures ∙ fixed-no_whole whole decimals (cond_none _ _ c.in_err-value.ensures))

pub returns-in_err-value-2 : goal.returns-in_err-value-2
returns-in_err-value-2 c =
    let whole = c.around_point.result.0.now in
    let decimals = c.around_point.result.1.now in
    let value = value_before whole c.in_ok-value.value c.in_ok-value.ensures in
    fixed_is c.args.word.now whole decimals _ c.around_point.ensures.before c.around_point.ensures.after
    (c.from_residual-in_err-value-2.ensures ∙ fixed-no_decimals whole decimals (rw value at (cond_none _ _ c.in_err-value-2.ensures)))

pub returns : goal.returns
returns c =
    let whole = c.around_point.result.0.now in
    let decimals = c.around_point.result.1.now in
    fixed_is c.args.word.now whole decimals _ c.around_point.ensures.before c.around_point.ensures.after
    (fixed_product whole decimals c.in_ok-value.value c.in_ok-value-2.value c.checked_mul.result
    (elim c.else-is_empty.branch [
      | else-is_empty-via-then-is_empty+else-is_empty-2 w ↦ filled_right whole decimals (sym w.is_empty-then-is_empty.ensures ∙ w.if-is_empty-2.false)
      | else-is_empty-via-else-is_empty w ↦ filled_left whole decimals (sym c.is_empty.ensures ∙ w.if-is_empty.false)
    ])
    c.if-decimals-gt9.false c.in_ok-value.ensures c.in_ok-value-2.ensures
    (subst (λ p. SomeIff c.checked_mul.result (c.in_ok-value-2.value * p < 2 ^ 64) (c.in_ok-value-2.value * p)) c.pow.ensures c.checked_mul.ensures))
