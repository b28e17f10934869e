use Rattle.std.proofs.Common.{◌^◌, ◌+◌, ◌*◌, ◌-◌, get_or, drop, arith}
use Rattle.std.proofs.lemmas.List.{at_drop_more}
use Rattle.vpr_text.specs.Numbers.{value_after}
use Rattle.vpr_text.proofs.Spelled.{value_after-ge, value_no_fit}
use Rattle.vpr_text.proofs.numbers.value_after.Goals as goal

pub returns-then-total-digit : goal.returns-then-total-digit
returns-then-total-digit c =
    let digits = c.args.digits.now in
    let e = at_drop_more (value_after c.loop-byte.total) digits c.loop-byte.byte-index 0 c.loop-byte-test.true in
    let ge = value_after-ge (c.loop-byte.total * 10 + (get_or digits c.loop-byte.byte-index 0 - 48)) (drop (c.loop-byte.byte-index + 1) digits) in
    value_no_fit c.args.value digits (2 ^ 64) (omega (arith, ge, e, c.loop-byte.invariant.2))
