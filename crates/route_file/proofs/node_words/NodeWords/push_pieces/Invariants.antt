use Rattle.std.proofs.Common.{◌≡◌, ◌++◌, length}
use Rattle.route_file.specs.NodeWords.{pieces_of}
use Rattle.route_file.proofs.node_words.NodeWords.push_pieces.Given as goal

-- the words so far, and then the pieces of the rest, are all
abbrev pub invariant-loop-piece : goal.invariant-loop-piece
invariant-loop-piece l = l.self ++ pieces_of l.rest ≡ l.initial.self ++ pieces_of l.word

abbrev pub decreases-loop-piece : goal.decreases-loop-piece
decreases-loop-piece l = length l.rest
