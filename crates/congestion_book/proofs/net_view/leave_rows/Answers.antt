use Rattle.congestion_book.proofs.Seeing.{used_next}
use Rattle.congestion_book.proofs.net_view.leave_rows.Goals as goal

pub leave_node-requires-clause-used : goal.leave_node-requires-clause-used
leave_node-requires-clause-used c =
    used_next c.args.view.now c.loop-row.view c.args.rows.now c.loop-row.row-index c.loop-row-test.true c.loop-row.invariant c.requires.used
