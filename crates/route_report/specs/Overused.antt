-- The overused nodes of a routing.
use Rattle.std.specs.Prelude.{ℕ, Bool, nat_lt, List, length, map, get_or}
use Rattle.std.specs.List.{filter}
use Rattle.routing_problem.specs.Fabric.{Fabric, numbers_below}
use Rattle.routing_problem.specs.Nodes.{node_at, node_count_of}
use Rattle.routing_problem.specs.Problems.{RoutingProblem, net_in}
use Rattle.route_tree.specs.Usage.{covers_by, use_of, room_of, overuse_of, Lists, list_in}

-- a node: how many nets cover it, how many it has room for, and which nets cover it, ascending
pub record Overuse : Type 0 where
  pub node : ℕ
  pub used : ℕ
  pub capacity : ℕ
  pub nets : List ℕ

-- the nets that cover a node, ascending
abbrev pub nets_on : RoutingProblem → Lists → ℕ → List ℕ
nets_on p lists a =
    filter (λ i. covers_by (net_in p.nets i) (list_in lists i) a) (numbers_below (length p.nets))

-- what is reported of a node
abbrev pub overuse_at : RoutingProblem → Lists → ℕ → Overuse
overuse_at p lists a = record {
  node = a;
  used = use_of p.nets lists a;
  capacity = room_of p.device (node_at p.device a);
  nets = nets_on p lists a;
}

-- more nets cover the node than it has room for
abbrev pub is_overused : RoutingProblem → Lists → ℕ → Bool
is_overused p lists a = nat_lt 0 (overuse_of p lists a)

-- by any given uses: that of the node is above its capacity
abbrev pub is_over : Fabric → (uses : List ℕ) → ℕ → Bool
is_over f uses a = nat_lt (room_of f (node_at f a)) (get_or uses a 0)

-- the overused nodes, ascending
unfoldable pub overused_nodes : RoutingProblem → Lists → List Overuse
overused_nodes p lists =
    map (overuse_at p lists) (filter (is_overused p lists) (numbers_below (node_count_of p.device)))
