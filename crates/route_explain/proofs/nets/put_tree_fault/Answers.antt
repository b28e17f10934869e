use Rattle.text_output.proofs.Printing.{prints_then}
use Rattle.route_explain.specs.Explanation.{tree_fault_words}
use Rattle.route_explain.proofs.nets.put_tree_fault.Goals as goal

pub returns : goal.returns
unfolding tree_fault_words
returns g c =
    let name = rw c.tree_fault_name.ensures at c.push.ensures in
    let reason = rw (c.new-list.ensures, c.device-device.ensures.device, c.source-source.ensures.source, c.sinks-sinks.ensures) at c.put_reason.ensures in
    prints_then name (prints_then c.push-2.ensures reason)
