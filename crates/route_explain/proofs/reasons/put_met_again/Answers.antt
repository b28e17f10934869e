use Rattle.text_output.proofs.Printing.{prints_then}
use Rattle.route_explain.specs.Reasons.{met_again_text}
use Rattle.route_explain.proofs.reasons.put_met_again.Goals as goal

pub returns : goal.returns
unfolding met_again_text
returns g c =
    let step = rw (c.row_that_ends_again-row.ensures, c.pairs.ensures) at c.put_end.ensures in
    prints_then c.push.ensures step
