use Rattle.std.proofs.Common.{◌%◌, ap, arith}
use Rattle.node_cost.specs.kept.Packed.{narrow_of}
use Rattle.node_cost.proofs.Packing.{full_copied, wide_copied}
use Rattle.node_cost.proofs.packed.copy_counts.Goals as goal

pub returns-clause-counts : goal.returns-clause-counts
returns-clause-counts c =
    wide_copied c.copy_from_slice.new.self c.args.from_words.now c.args.from_wide.now c.copy_wide.new.wide c.args.from_marks.now
    (λ id. ap (λ words. narrow_of words id % 8) c.copy_from_slice.ensures.after) c.requires.marked c.copy_wide.ensures (omega arith)

pub returns-clause-full : goal.returns-clause-full
returns-clause-full c =
    full_copied c.copy_from_slice.new.self c.args.from_words.now c.args.from_wide.now c.copy_wide.new.wide c.args.from_marks.now
    (λ id. ap (λ words. narrow_of words id % 8) c.copy_from_slice.ensures.after) c.requires.marked c.copy_wide.ensures c.requires.full
