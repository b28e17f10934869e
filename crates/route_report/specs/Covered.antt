-- Which nodes the nets of a routing cover, and how many nets cover each.
use Rattle.std.specs.Prelude.{ℕ, Bool, nat_lt, List, map, get_or}
use Rattle.std.specs.List.{filter}
use Rattle.routing_problem.specs.Fabric.{numbers_below}
use Rattle.routing_problem.specs.Nodes.{node_count_of}
use Rattle.routing_problem.specs.Problems.{RoutingProblem, net_in}
use Rattle.route_tree.specs.Usage.{covers_by, use_of, Lists, list_in}

-- the nodes that net i covers, ascending
unfoldable pub nodes_covered : RoutingProblem → Lists → ℕ → List ℕ
nodes_covered p lists i =
    filter (covers_by (net_in p.nets i) (list_in lists i)) (numbers_below (node_count_of p.device))

-- how many nets cover each node, by its number
unfoldable pub uses_of : RoutingProblem → Lists → List ℕ
uses_of p lists = map (use_of p.nets lists) (numbers_below (node_count_of p.device))

-- some net covers the node
abbrev pub is_used : List ℕ → ℕ → Bool
is_used uses a = nat_lt 0 (get_or uses a 0)
