use Rattle.std.proofs.Common.{◌/◌, arith}
use Rattle.node_cost.proofs.Packing.{flags_kept, narrow_full, narrow_marked, narrow_put, wide_full, wide_marked, wide_put}
use Rattle.node_cost.proofs.packed.put_count.Goals as goal

pub returns-then-count-lt7 : goal.returns-then-count-lt7
returns-then-count-lt7 c =
    let flag = c.narrow-flag.result / 8 in
    let put = rw c.from.ensures at c.put_narrow.ensures in record {
      counts = narrow_put c.args.words.now c.put_narrow.new.words c.args.wide.now c.args.id flag c.args.count c.requires.there c.if-count-lt7.true put;
      marked = narrow_marked c.args.words.now c.put_narrow.new.words c.args.marks.now c.args.id flag c.args.count c.if-count-lt7.true put c.requires.marked;
      full = narrow_full c.args.words.now c.put_narrow.new.words c.args.wide.now c.args.id flag c.args.count c.if-count-lt7.true put c.requires.full;
      flags = flags_kept c.args.words.now c.put_narrow.new.words c.args.id flag c.args.count (omega (arith, c.narrow-flag.ensures.exact)) (omega (arith, c.if-count-lt7.true)) put;
    }

pub returns-else-count-lt7 : goal.returns-else-count-lt7
returns-else-count-lt7 c =
    let flag = c.narrow-flag.result / 8 in
    let new = c.put_narrow-else-count-lt7.new.words in
    let put = c.put_narrow-else-count-lt7.ensures in record {
      counts = wide_put c.args.words.now new c.args.wide.now c.args.id flag c.args.count c.requires.there put;
      marked = wide_marked c.args.words.now new c.args.marks.now c.args.id _ (omega (arith, c.requires.there, c.requires.blocks)) put c.requires.marked;
      full = wide_full c.args.words.now new c.args.wide.now c.args.id _ c.args.count c.requires.there c.if-count-lt7.false put c.requires.full;
      flags = flags_kept c.args.words.now new c.args.id flag 7 (omega (arith, c.narrow-flag.ensures.exact)) (omega arith) put;
    }
