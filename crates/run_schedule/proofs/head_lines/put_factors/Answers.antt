use Rattle.text_output.proofs.Printing.{prints_then}
use Rattle.run_schedule.specs.HeadLines.{factors_text}
use Rattle.run_schedule.proofs.head_lines.put_factors.Goals as goal

pub returns : goal.returns
unfolding factors_text
returns g c =
    let first = rw c.first.ensures.exact at c.put_amount.ensures in
    let init = rw c.init.ensures at c.put_amount-2.ensures in
    let mult = rw c.mult.ensures at c.put_amount-3.ensures in
    prints_then first (prints_then init mult)
