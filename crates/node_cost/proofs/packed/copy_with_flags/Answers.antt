use Rattle.std.proofs.Common.{arith}
use Rattle.node_cost.proofs.FlagsAdded.{flags_added, numbers_added}
use Rattle.node_cost.proofs.Packing.{full_copied, marks_copied, wide_copied}
use Rattle.node_cost.proofs.packed.copy_with_flags.Goals as goal

pub returns : goal.returns
returns c =
    let words = c.copy_words.new.words in
    let from = c.args.from_words.now in
    let same = numbers_added from c.args.flags.now words c.requires.plain c.requires.only c.copy_words.ensures in record {
      counts = wide_copied words from c.args.from_wide.now c.copy_wide.new.wide c.args.from_marks.now same c.requires.marked c.copy_wide.ensures (omega arith);
      marked = marks_copied words from c.args.from_wide.now c.copy_wide.new.wide c.args.from_marks.now same c.requires.marked c.copy_wide.ensures;
      full = full_copied words from c.args.from_wide.now c.copy_wide.new.wide c.args.from_marks.now same c.requires.marked c.copy_wide.ensures c.requires.full;
      flags = flags_added from c.args.flags.now words c.requires.plain c.requires.only c.copy_words.ensures;
    }
