use Rattle.std.proofs.Common.{◌≡◌, List, ℕ, not, filter}
use Rattle.net_file.specs.Lines.{is_open}
use Rattle.net_file.specs.Names.{with_names}
use Rattle.net_file.proofs.seen.add_nets.Given as goal

-- the names with the nets of the words that are left are those that are wanted
abbrev pub invariant-loop-word : goal.invariant-loop-word
invariant-loop-word l =
    with_names l.names (filter (λ (w : List ℕ). not (is_open w)) l.word-iterator)
    ≡ with_names l.initial.names (filter (λ (w : List ℕ). not (is_open w)) l.initial.word-iterator)
