use Rattle.std.proofs.Common.{◌≡◌, take}
use Rattle.route_tree.specs.TreeLists.{lists_of_trees}
use Rattle.route_tree.proofs.routing.Routing.of_trees.Given as goal

abbrev pub invariant-loop-tree : goal.invariant-loop-tree
invariant-loop-tree l = l.lists.items ≡ lists_of_trees (take l.tree-index l.trees)
