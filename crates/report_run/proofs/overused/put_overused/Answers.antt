use Rattle.text_output.proofs.Printing.{prints_then}
use Rattle.report_run.proofs.overused.put_overused.Goals as goal

pub returns : goal.returns
returns g c = prints_then c.put_count.ensures c.put_each.ensures
