use Rattle.text_output.proofs.Printing.{prints_then}
use Rattle.report_run.proofs.json_overused.put_next_naming.Goals as goal

pub returns : goal.returns
returns g c =
    let comma = rw c.comma_if.ensures at c.push.ensures in
    prints_then comma c.put_naming.ensures
