use Rattle.runs.proofs.Telling.{tells_then}
use Rattle.runs.proofs.untried.tell_widths.Goals as goal

pub returns : goal.returns
returns g c = let untried = rw c.first_possible.ensures at c.tell_untried.ensures in tells_then c.tell_bound.ensures untried
