use Rattle.std.proofs.Common.{◌≡◌, ◌++◌, map}
use Rattle.net_file.specs.Blocks.{net_of}
use Rattle.net_file.proofs.blocks.nets_at.Given as goal

-- the nets so far, and then those of the words that are left
abbrev pub invariant-loop-word : goal.invariant-loop-word
invariant-loop-word l = l.list.items ++ map (net_of l.nets) l.word-iterator ≡ map (net_of l.initial.nets) l.initial.word-iterator
