use Rattle.std.proofs.Common.{arith}
use Rattle.node_numbers.specs.Starts.{kind_start}
use Rattle.node_numbers.proofs.NodesByPlace.{node_count_by_kinds}
use Rattle.node_numbers.proofs.starts.starts_of.Goals as goal

pub returns : goal.returns
unfolding kind_start
returns c =
    let source = c.terminals_of-sink.ensures.count in
    record {
      sink = source;
      opin = omega (arith, source, c.terminals_of.ensures.count);
      ipin = omega (arith, source, c.terminals_of.ensures.count, c.terminals_of-2.ensures.count);
      chanx = omega (arith, source, c.terminals_of.ensures.count, c.terminals_of-2.ensures.count, c.terminals_of-3.ensures.count);
      chany = omega (arith, source, c.terminals_of.ensures.count, c.terminals_of-2.ensures.count, c.terminals_of-3.ensures.count, c.wires_above.ensures.count);
      end = omega (arith, source, c.terminals_of.ensures.count, c.terminals_of-2.ensures.count, c.terminals_of-3.ensures.count, c.wires_above.ensures.count, c.wires_right.ensures.count, node_count_by_kinds c.args.tables.now);
    }
