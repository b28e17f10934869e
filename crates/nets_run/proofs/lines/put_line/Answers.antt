use Rattle.text_output.proofs.Printing.{prints_then}
use Rattle.nets_run.specs.Nets.{net_line}
use Rattle.nets_run.proofs.lines.put_line.Goals as goal

pub returns : goal.returns
unfolding net_line
returns g c =
    let beginning = rw (c.net_name-name.ensures, c.source.ensures.source, c.number-number.ensures) at c.put_beginning.ensures in
    let sinks = rw c.sinks.ensures at c.put_sinks.ensures in
    prints_then beginning (prints_then sinks c.push.ensures)
