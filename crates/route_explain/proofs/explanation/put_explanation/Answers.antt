use Rattle.text_output.proofs.Printing.{prints_then}
use Rattle.route_explain.specs.Explanation.{explanation_text}
use Rattle.route_explain.proofs.explanation.put_explanation.Goals as goal

pub returns : goal.returns
unfolding explanation_text
returns g c =
    let overused = rw (c.deref.ensures.value, c.requires.overused) at c.put_overused.ensures in
    prints_then c.put_nets.ensures (prints_then overused c.put_use_lines.ensures)
