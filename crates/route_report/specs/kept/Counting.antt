-- How many nets use each node, as far as they were counted.
use Rattle.std.specs.Prelude.{◌≡◌, ℕ, ◌<◌, List, length, get_or, take}
use Rattle.routing_problem.specs.Nodes.{node_count_of}
use Rattle.routing_problem.specs.Problems.{RoutingProblem}
use Rattle.route_tree.specs.Usage.{use_of, Lists}

-- the uses of the nodes by the first nets
pub record AreUses (p : RoutingProblem) (lists : Lists) (nets : ℕ) (counts : List ℕ) : Type 0 where
  pub size : length counts ≡ node_count_of p.device
  pub each : (a : ℕ) → a < node_count_of p.device → get_or counts a 0 ≡ use_of (take nets p.nets) lists a
