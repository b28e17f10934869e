use Rattle.node_cost.proofs.FlagsAdded.{AreAddedBelow}
use Rattle.node_cost.proofs.packed.copy_words.Given as goal

abbrev pub invariant-loop-at : goal.invariant-loop-at
invariant-loop-at l = AreAddedBelow l.plain l.flags l.words l.at
