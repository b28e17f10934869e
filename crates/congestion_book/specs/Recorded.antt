-- Counts over the recorded lists: how many nets use each node, how many nodes are overused and by
-- how much, how many nets have no list, and how long all nets are.
use Rattle.std.specs.Prelude.{◌≡◌, ℕ, nat_lt, List, map, sum, Option, Some, None, is_none, count_by}
use Rattle.std.specs.List.{sum_by}
use Rattle.routing_problem.specs.Fabric.{numbers_below}
use Rattle.routing_problem.specs.Nodes.{node_count_of}
use Rattle.routing_problem.specs.Problems.{RoutingProblem}
use Rattle.route_tree.specs.Paths.{Pair}
use Rattle.route_tree.specs.Faults.{IsRoute}
use Rattle.route_tree.specs.Usage.{use_of, overuse_of, Lists, list_in}
use Rattle.route_report.specs.Wirelength.{wirelengths_of}

-- each recorded list routes its net
abbrev pub AreRoutes : RoutingProblem → Lists → Type 0
AreRoutes p lists = (i : ℕ) (pairs : List Pair) → list_in lists i ≡ Some pairs → IsRoute p i pairs

-- the list routes its net, if there is one
abbrev pub RoutesOrNone : RoutingProblem → (net : ℕ) → Option (List Pair) → Type 0
RoutesOrNone p i (Some pairs) = IsRoute p i pairs
RoutesOrNone p i None = Unit {0}

-- how many nets with a list use each node
unfoldable pub occupancies_of : RoutingProblem → Lists → List ℕ
occupancies_of p lists = map (λ a. use_of p.nets lists a) (numbers_below (node_count_of p.device))

-- how many nets have no list
unfoldable pub unrouted_in : Lists → ℕ
unrouted_in lists = count_by is_none lists

-- how many nodes more nets use than they have room for
unfoldable pub overused_in : RoutingProblem → Lists → ℕ
overused_in p lists = count_by (λ a. nat_lt 0 (overuse_of p lists a)) (numbers_below (node_count_of p.device))

-- the overuse of all nodes together: by how many nets more than they have room for they are used
unfoldable pub excess_in : RoutingProblem → Lists → ℕ
excess_in p lists = sum_by (overuse_of p lists) (numbers_below (node_count_of p.device))

-- the wirelength of all nets together
unfoldable pub wirelength_in : RoutingProblem → Lists → ℕ
wirelength_in p lists = sum (wirelengths_of p lists)
