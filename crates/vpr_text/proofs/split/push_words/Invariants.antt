use Rattle.std.specs.Prelude.{slice_range}
use Rattle.vpr_text.specs.Words.{words_between}
use Rattle.vpr_text.proofs.Splitting.{IsSplitting}
use Rattle.vpr_text.proofs.split.push_words.Given as goal

abbrev pub invariant-loop-i : goal.invariant-loop-i
invariant-loop-i l = IsSplitting l.source l.fn.ranges.items l.ranges.items l.start l.i l.to (words_between (slice_range l.source l.from l.to))
