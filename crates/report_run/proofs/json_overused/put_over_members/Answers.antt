use Rattle.text_output.proofs.Printing.{prints_then}
use Rattle.report_run.proofs.json_overused.put_over_members.Goals as goal

pub returns : goal.returns
returns g c =
    let lines = rw c.device.ensures.device at c.put_lines.ensures in
    prints_then c.push.ensures (prints_then c.put_overuses.ensures (prints_then c.push-2.ensures (prints_then lines c.push-3.ensures)))
