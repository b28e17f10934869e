use Rattle.route_explain.proofs.reasons.put_dangling.Goals as goal

pub returns : goal.returns
returns g c = rw c.row_to_dead_end-row.ensures at c.put_loose.ensures
