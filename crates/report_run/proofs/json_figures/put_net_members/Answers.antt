use Rattle.text_output.proofs.Printing.{prints_then}
use Rattle.report_run.proofs.json_figures.put_net_members.Goals as goal

pub returns : goal.returns
returns g c =
    prints_then c.push.ensures (prints_then c.put_totals.ensures (prints_then c.push-2.ensures (prints_then c.put_totals-2.ensures (prints_then c.push-3.ensures (prints_then c.put_totals-3.ensures c.push-4.ensures)))))
