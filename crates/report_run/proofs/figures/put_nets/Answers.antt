use Rattle.text_output.proofs.Printing.{prints_then}
use Rattle.report_run.specs.Figures.{net_count_lines}
use Rattle.report_run.proofs.figures.put_nets.Goals as goal

pub returns : goal.returns
unfolding net_count_lines
returns g c =
    let nets = rw c.nets.ensures.entry at c.put_number.ensures in
    let global = rw c.global_nets.ensures at c.put_number-2.ensures in
    let trees = rw (c.from.ensures, c.from-2.ensures) at c.put_share.ensures in
    prints_then c.push.ensures (prints_then nets (prints_then c.push-2.ensures (prints_then global (prints_then c.push-3.ensures (prints_then trees c.push-4.ensures)))))
