use Rattle.text_output.proofs.Printing.{prints_then}
use Rattle.run_schedule.specs.HeadLines.{options_text}
use Rattle.run_schedule.proofs.head_lines.put_options.Goals as goal

pub returns : goal.returns
unfolding options_text
returns g c =
    let iterations = rw c.iterations.ensures.exact at c.put_amount.ensures in
    let acc = rw (c.from-acc.ensures, c.acc.ensures) at c.put_amount-2.ensures in
    let bb = rw c.bb.ensures.exact at c.put_amount-3.ensures in
    prints_then iterations (prints_then c.put_factors.ensures (prints_then acc bb))
