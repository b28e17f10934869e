use Rattle.text_output.proofs.Printing.{prints_then}
use Rattle.runs.proofs.untried.put_marked.Goals as goal

pub returns : goal.returns
returns g c = prints_then c.push.ensures c.put_number.ensures
