use Rattle.std.specs.Prelude.{◌≡◌, ◌≤◌, length, take, vec_capacity}
use Rattle.route_tree.specs.TreeLists.{lists_of_trees}
use Rattle.iteration.proofs.routing.routing_of.Given as goal

abbrev pub invariant-loop-net : goal.invariant-loop-net
invariant-loop-net l = record {
  lists : lists_of_trees l.trees.items ≡ take l.net l.book.lists;
  count : length l.trees.items ≡ l.net;
  room : l.nets ≤ vec_capacity l.trees;
}
