use Rattle.text_output.proofs.Printing.{prints_then}
use Rattle.report_run.specs.Map.{row_number}
use Rattle.report_run.proofs.map.put_row_number.Goals as goal

pub returns : goal.returns
unfolding row_number
returns g c =
    let blanks = rw c.blanks_before.ensures at c.push.ensures in
    prints_then blanks c.put_number.ensures
