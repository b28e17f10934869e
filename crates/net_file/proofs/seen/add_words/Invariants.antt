use Rattle.std.proofs.Common.{◌≡◌}
use Rattle.net_file.specs.Names.{with_names}
use Rattle.net_file.proofs.seen.add_words.Given as goal

-- the names with the words that are left are those that are wanted
abbrev pub invariant-loop-word : goal.invariant-loop-word
invariant-loop-word l = with_names l.names l.word-iterator ≡ with_names l.initial.names l.initial.word-iterator
