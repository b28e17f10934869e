use Rattle.text_output.proofs.Printing.{prints_then}
use Rattle.report_run.proofs.json_channels.put_filled_types.Goals as goal

pub returns : goal.returns
returns g c =
    prints_then c.push.ensures (prints_then c.put_type.ensures (prints_then c.put_more_types.ensures c.push-2.ensures))
