use Rattle.std.specs.Prelude.{◌≡◌, take}
use Rattle.route_tree.specs.TreeLists.{lists_of_trees}
use Rattle.net_workers.proofs.opening.trees_of.Given as goal

abbrev pub invariant-loop-net : goal.invariant-loop-net
invariant-loop-net l = lists_of_trees l.trees.items ≡ take l.net l.book.lists
