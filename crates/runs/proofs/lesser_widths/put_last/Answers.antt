use Rattle.runs.proofs.lesser_widths.put_last.Goals as goal

pub returns-in-None : goal.returns-in-None
returns-in-None g c = rw c.in-None.is c.push.ensures
