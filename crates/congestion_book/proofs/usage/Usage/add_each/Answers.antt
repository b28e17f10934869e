use Rattle.congestion_book.proofs.Counting.{room_left}
use Rattle.congestion_book.proofs.usage.Usage.add_each.Goals as goal

pub add_node-requires-clause-room : goal.add_node-requires-clause-room
add_node-requires-clause-room c =
    room_left c.args.self.now.counts c.loop-row.self.counts c.args.rows.now c.loop-row.row-index c.loop-row-test.true c.loop-row.invariant.counts c.requires.room
