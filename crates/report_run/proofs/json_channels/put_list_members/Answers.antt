use Rattle.text_output.proofs.Printing.{prints_then}
use Rattle.report_run.proofs.json_channels.put_list_members.Goals as goal

pub returns : goal.returns
returns g c =
    prints_then c.push.ensures (prints_then c.put_types.ensures (prints_then c.push-2.ensures (prints_then c.put_channels.ensures c.push-3.ensures)))
