use Rattle.text_output.proofs.Printing.{prints_then}
use Rattle.route_explain.specs.Reasons.{out_of_order_text}
use Rattle.route_explain.proofs.reasons.put_out_of_order.Goals as goal

pub returns : goal.returns
unfolding out_of_order_text
returns g c =
    let step = rw (c.row_out_of_order-row.ensures, c.pairs.ensures) at c.put_step.ensures in
    prints_then c.push.ensures step
