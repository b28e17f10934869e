use Rattle.congestion_book.proofs.Seeing.{room_next}
use Rattle.congestion_book.proofs.totals.return_rows.Goals as goal

pub return_node-requires-clause-room : goal.return_node-requires-clause-room
return_node-requires-clause-room c =
    room_next c.args.view.now c.loop-row.view c.args.rows.now c.loop-row.row-index c.loop-row-test.true c.loop-row.invariant c.requires.room
