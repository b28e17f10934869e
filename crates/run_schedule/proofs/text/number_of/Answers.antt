use Rattle.std.proofs.Common.{◌∙◌}
use Rattle.run_schedule.proofs.Numbers.{printed_again}
use Rattle.run_schedule.proofs.text.number_of.Goals as goal

pub returns-then-ne-clause-only : goal.returns-then-ne-clause-only
returns-then-ne-clause-only c = λ n small is.
    absurd (printed_again c.args.digits.now c.as_bytes.result.now n c.in_ok-number.number c.ne.result small is c.in_ok-number.ensures (c.as_bytes.ensures.value ∙ c.format.ensures.text) c.ne.ensures c.if-ne.true)
