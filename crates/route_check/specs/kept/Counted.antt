-- How often nodes were counted.
use Rattle.std.specs.Prelude.{◌≡◌, ℕ, ◌+◌, ◌-◌, ◌<◌, ◌≤◌, ◌==◌, List, length, get_or, take, count_by, All}
use Rattle.routing_problem.specs.Fabric.{Fabric}
use Rattle.routing_problem.specs.Nodes.{node_at, node_count_of}
use Rattle.routing_problem.specs.Problems.{RoutingProblem}
use Rattle.route_tree.specs.Usage.{use_of, room_of, Lists}

-- the uses of the nodes by the first nets
pub record AreUses (p : RoutingProblem) (lists : Lists) (nets : ℕ) (counts : List ℕ) : Type 0 where
  pub size : length counts ≡ node_count_of p.device
  pub each : (a : ℕ) → get_or counts a 0 ≡ use_of (take nets p.nets) (take nets lists) a

-- by how much the count of a node is above its capacity
abbrev pub excess_of : Fabric → (counts : List ℕ) → ℕ → ℕ
excess_of f counts a = get_or counts a 0 - room_of f (node_at f a)

-- each of these nodes has a count, which can grow as often as the node is among them
pub record HasRoom (counts : List ℕ) (nodes : List ℕ) : Type 0 where
  pub there : All (λ a. a < length counts) nodes
  pub room : (a : ℕ) → get_or counts a 0 + count_by (λ b. b == a) nodes ≤ 65535
