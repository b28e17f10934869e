use Rattle.std.proofs.Common.{arith}
use Rattle.route_tree.specs.Rows.{no_row}
use Rattle.congestion_book.proofs.Counting.{use_left, takes_next}
use Rattle.congestion_book.proofs.usage.Usage.take_each.Goals as goal

pub take_node-requires-clause-used : goal.take_node-requires-clause-used
take_node-requires-clause-used c =
    use_left c.args.self.now.counts c.loop-row.self.counts c.args.rows.now c.loop-row.row-index c.loop-row-test.true c.loop-row.invariant.counts c.requires.used

pub loop-row-preserved : goal.loop-row-preserved
loop-row-preserved c =
    let used = use_left c.args.self.now.counts c.loop-row.self.counts c.args.rows.now c.loop-row.row-index c.loop-row-test.true c.loop-row.invariant.counts c.requires.used in
    record {
      counts = takes_next c.args.self.now.counts c.loop-row.self.counts c.args.rows.now c.loop-row.row-index c.loop-row-test.true c.take_node.new.self.counts c.loop-row.invariant.counts (omega (arith, c.requires.there c.loop-row.row-index no_row c.loop-row-test.true, c.loop-row.invariant.counts.size, c.requires.each)) used c.take_node.ensures.counts;
      counted = c.take_node.ensures.counted;
    }
