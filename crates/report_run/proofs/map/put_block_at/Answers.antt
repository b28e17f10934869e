use Rattle.report_run.proofs.map.put_block_at.Goals as goal

pub returns : goal.returns
returns g c = rw c.right_of-right.ensures at c.put_cell.ensures
