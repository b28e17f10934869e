use Rattle.route_explain.proofs.reasons.put_reason.Goals as goal

pub returns-in-NoNet : goal.returns-in-NoNet
returns-in-NoNet g c = rw c.in-NoNet.is c.push.ensures
