use Rattle.vpr_text.proofs.Printing.{sends_then}
use Rattle.text_output.specs.NodeTexts.{node_text}
use Rattle.text_output.proofs.node.put_node.Goals as goal

pub returns : goal.returns
unfolding node_text
returns g c =
    let kind = rw c.kind_name.ensures at c.push.ensures in
    let label = rw c.label_name.ensures at c.push-4.ensures in
    sends_then kind (sends_then c.push-2.ensures (sends_then c.put_span.ensures (sends_then c.push-3.ensures (sends_then label c.put_number.ensures))))
