use Rattle.std.proofs.Common.{arith, length, ap}
use Rattle.node_cost.proofs.Noting.{flagged_none}
use Rattle.node_cost.proofs.Packing.{length_counts}
use Rattle.node_cost.proofs.view.View.of_counts.Goals as goal

pub invariant_of-result : goal.invariant_of-result
invariant_of-result c =
    let parts = c.into_parts-words.result in
    let packed = c.into_parts-words.ensures.packed in
    let long = length_counts parts.0.items parts.1.items in
    let same = ap length c.into_parts-words.ensures.counts in record {
      each = packed.each;
      blocks = packed.blocks;
      marked = packed.marked;
      full = packed.full;
      size = omega (arith, c.requires.size, long, same);
      flagged = flagged_none c.args.histories parts.0.items c.requires.none packed.plain;
      bounded = packed.bounded;
    }
