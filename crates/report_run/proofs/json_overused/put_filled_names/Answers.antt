use Rattle.text_output.proofs.Printing.{prints_then}
use Rattle.report_run.proofs.json_overused.put_filled_names.Goals as goal

pub returns : goal.returns
returns g c =
    prints_then c.push.ensures (prints_then c.put_name.ensures (prints_then c.put_more_names.ensures c.push-2.ensures))
