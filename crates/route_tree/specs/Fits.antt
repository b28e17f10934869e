-- A routing that can be for a problem: it has an entry for each net, and names only nodes.
use Rattle.std.specs.Prelude.{ℕ, ◌==◌, Bool, true, ◌&&◌, nat_lt, List, length, Option, Some, None}
use Rattle.std.specs.List.{list_all}
use Rattle.routing_problem.specs.Fabric.{Fabric}
use Rattle.routing_problem.specs.Nodes.{node_count_of}
use Rattle.routing_problem.specs.Problems.{RoutingProblem}
use Rattle.route_tree.specs.Paths.{Pair}

abbrev pub is_below : (count : ℕ) → Pair → Bool
is_below count p = nat_lt p.0 count && nat_lt p.1 count

-- all numbers are those of nodes
abbrev pub are_nodes : Fabric → Option (List Pair) → Bool
are_nodes f (Some pairs) = list_all (is_below (node_count_of f)) pairs
are_nodes f None = true

-- the routing has one entry for each net of the problem, and all its numbers are nodes
unfoldable pub fits_problem : RoutingProblem → List (Option (List Pair)) → Bool
fits_problem p lists = length lists == length p.nets && list_all (are_nodes p.device) lists
