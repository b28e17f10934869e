use Rattle.text_output.proofs.Printing.{prints_then}
use Rattle.runs.specs.Untried.{untried_from}
use Rattle.runs.proofs.untried.put_from.Goals as goal

pub returns : goal.returns
unfolding untried_from
returns g c =
    let word = rw c.untried_word.ensures at c.push.ensures in
    let were = rw c.untried_were.ensures at c.push-2.ensures in
    prints_then word (prints_then c.put_gaps.ensures (prints_then were c.put_advice.ensures))
