use Rattle.congestion_book.proofs.Growing.{grows_next, room_for_next}
use Rattle.congestion_book.proofs.history.add_row.Goals as goal

pub add_amount-requires-clause-bounded : goal.add_amount-requires-clause-bounded
add_amount-requires-clause-bounded c =
    room_for_next c.args.acc c.args.row.now c.args.histories.now c.loop-amount.histories c.loop-amount.amount-index c.loop-amount-test.true c.loop-amount.invariant
    c.requires.bounded

pub loop-amount-preserved : goal.loop-amount-preserved
loop-amount-preserved c =
    grows_next c.args.acc c.args.row.now c.args.histories.now c.loop-amount.histories c.loop-amount.amount-index c.loop-amount-test.true c.loop-amount.invariant
    c.add_amount.new.histories c.add_amount.ensures
