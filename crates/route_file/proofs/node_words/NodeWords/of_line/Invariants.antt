use Rattle.std.proofs.Common.{◌≡◌, ◌++◌, flat_map}
use Rattle.route_file.specs.NodeWords.{pieces_of, node_words}
use Rattle.route_file.proofs.node_words.NodeWords.of_line.Given as goal

-- the words so far, and then the pieces of the rest, are all
abbrev pub invariant-loop-word : goal.invariant-loop-word
invariant-loop-word l = l.all ++ flat_map pieces_of l.word-iterator ≡ node_words l.fn.words
