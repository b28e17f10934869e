use Rattle.text_output.proofs.Printing.{prints_then}
use Rattle.report_run.proofs.json_figures.put_longest_member.Goals as goal

pub returns : goal.returns
returns g c =
    prints_then c.push.ensures (prints_then c.put_name_or_null.ensures c.push-2.ensures)
