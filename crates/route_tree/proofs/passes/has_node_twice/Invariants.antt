use Rattle.std.proofs.Common.{◌≡◌, false, length, take}
use Rattle.route_tree.specs.Legality.{has_twice}
use Rattle.route_tree.specs.kept.Marked.{IsMarked, nodes_of}
use Rattle.route_tree.proofs.passes.has_node_twice.Given as goal

abbrev pub invariant-loop-row : goal.invariant-loop-row
invariant-loop-row l =
    IsMarked l.stamps (nodes_of (take l.row-index l.rows))
    × (has_twice (nodes_of (take l.row-index l.rows)) ≡ false)
    × (length l.stamps ≡ length l.initial.stamps)
