use Rattle.text_output.proofs.Printing.{prints_then}
use Rattle.report_run.specs.Map.{crossing_line}
use Rattle.report_run.proofs.map.put_crossing_line.Goals as goal

pub returns : goal.returns
unfolding crossing_line
returns g c =
    let crossings = rw c.nx.ensures.entry at c.put_crossings.ensures in
    prints_then c.push.ensures (prints_then crossings c.push-2.ensures)
