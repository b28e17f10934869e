use Rattle.text_output.proofs.Printing.{prints_then}
use Rattle.route_explain.specs.Reasons.{foreign_sink_text}
use Rattle.route_explain.proofs.reasons.put_foreign_sink.Goals as goal

pub returns : goal.returns
unfolding foreign_sink_text
returns g c =
    let step = rw (c.row_to_foreign_sink-row.ensures, c.pairs.ensures) at c.put_end.ensures in
    prints_then c.push.ensures step
