-- What a search promises of the tree that it found.
use Rattle.std.specs.Prelude.{ℕ, List, Option}
use Rattle.routing_problem.specs.Problems.{RoutingProblem}
use Rattle.route_tree.specs.declared.tree.Row.{Row}
use Rattle.route_tree.specs.TreeLists.{list_of_tree}
use Rattle.congestion_book.specs.Recorded.{RoutesOrNone}

-- the tree, if there is one, routes the net
abbrev pub RoutesNet : RoutingProblem → (net : ℕ) → Option (List Row) → Type 0
RoutesNet p net tree = RoutesOrNone p net (list_of_tree tree)
