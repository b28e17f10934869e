use Rattle.std.proofs.Common.{◌≡◌, length, take}
use Rattle.route_tree.specs.kept.Marked.{IsMarked}
use Rattle.route_tree.proofs.stamps.mark_only.Given as goal

abbrev pub invariant-loop-number : goal.invariant-loop-number
invariant-loop-number l =
    IsMarked l.stamps (take l.number-index l.numbers)
    × (length l.stamps ≡ length l.initial.stamps)
