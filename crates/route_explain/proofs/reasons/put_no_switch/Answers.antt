use Rattle.text_output.proofs.Printing.{prints_then}
use Rattle.route_explain.specs.Reasons.{no_switch_text}
use Rattle.route_explain.proofs.reasons.put_no_switch.Goals as goal

pub returns : goal.returns
unfolding no_switch_text
returns g c =
    let step = rw c.row_without_switch-row.ensures at c.put_step.ensures in
    let why = rw c.row_without_switch-row.ensures at c.put_why.ensures in
    prints_then c.push.ensures (prints_then step why)
