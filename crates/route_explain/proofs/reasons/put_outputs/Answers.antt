use Rattle.text_output.proofs.Printing.{prints_then}
use Rattle.route_explain.specs.Reasons.{outputs_text}
use Rattle.route_explain.proofs.reasons.put_outputs.Goals as goal

pub returns : goal.returns
unfolding outputs_text
returns g c = prints_then c.push.ensures (prints_then c.put_node_of.ensures c.put_all_leaving.ensures)
