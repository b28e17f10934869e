use Rattle.runs.proofs.trials.put_least.Goals as goal

pub returns-in-None : goal.returns-in-None
returns-in-None g c = rw c.in-None.is c.push.ensures
