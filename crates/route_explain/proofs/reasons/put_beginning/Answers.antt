use Rattle.route_explain.proofs.reasons.put_beginning.Goals as goal

pub returns-then-is_empty : goal.returns-then-is_empty
returns-then-is_empty g c = rw (← c.if-is_empty.ensures) c.put_after.ensures
