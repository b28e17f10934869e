use Rattle.route_explain.proofs.reasons.put_apart.Goals as goal

pub returns-in-Some : goal.returns-in-Some
returns-in-Some g c = rw c.in-Some.is (rw c.pair_at.ensures at c.put_after.ensures)
