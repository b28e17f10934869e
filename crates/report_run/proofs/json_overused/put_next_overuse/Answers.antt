use Rattle.text_output.proofs.Printing.{prints_then}
use Rattle.report_run.proofs.json_overused.put_next_overuse.Goals as goal

pub returns : goal.returns
returns g c =
    prints_then c.push.ensures c.put_overuse.ensures
