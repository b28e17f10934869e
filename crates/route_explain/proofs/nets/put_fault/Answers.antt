use Rattle.text_output.proofs.Printing.{prints_then}
use Rattle.route_explain.specs.Explanation.{fault_text}
use Rattle.route_explain.proofs.nets.put_fault.Goals as goal

pub returns : goal.returns
unfolding fault_text
returns g c =
    let words = rw (c.pairs_of-pairs.ensures, c.tree_fault_in-fault.ensures) at c.put_fault_words.ensures in
    prints_then c.push.ensures (prints_then c.put_name.ensures (prints_then c.push-2.ensures (prints_then words c.push-3.ensures)))
