use Rattle.std.proofs.Common.{◌≡◌, take}
use Rattle.route_tree.specs.Rows.{pairs_of}
use Rattle.route_tree.proofs.routing.Pairs.of_tree.Given as goal

abbrev pub invariant-loop-index : goal.invariant-loop-index
invariant-loop-index l = l.items.items ≡ take l.index (pairs_of l.tree)
