use Rattle.text_output.proofs.Printing.{prints_then}
use Rattle.route_file.specs.TextLine.{bytes_on}
use Rattle.route_file.proofs.nodes.put_node.Goals as goal

pub returns : goal.returns
unfolding bytes_on
returns g c =
    let kind = rw c.kind_field.ensures at c.push.ensures in
    let label = rw c.label_name.ensures at c.push-4.ensures in
    prints_then (prints_then kind (prints_then c.push-2.ensures (prints_then c.put_span.ensures (prints_then c.push-3.ensures (prints_then label c.put_number.ensures))))) c.push-5.ensures
