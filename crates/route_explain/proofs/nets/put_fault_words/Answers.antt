use Rattle.route_explain.proofs.nets.put_fault_words.Goals as goal

pub returns-in-None : goal.returns-in-None
returns-in-None g c = rw c.in-None.is c.push.ensures
