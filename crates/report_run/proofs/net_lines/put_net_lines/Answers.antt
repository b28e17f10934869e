use Rattle.text_output.proofs.Printing.{prints_then}
use Rattle.report_run.specs.NetFigures.{net_lines}
use Rattle.report_run.proofs.net_lines.put_net_lines.Goals as goal

pub returns : goal.returns
unfolding net_lines
returns g c =
    prints_then c.push.ensures (prints_then c.put_totals.ensures (prints_then c.push-2.ensures (prints_then c.put_totals-2.ensures
    (prints_then c.push-3.ensures c.put_totals-3.ensures))))
