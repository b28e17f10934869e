-- When a routing routes a problem (Betz, Rose and Marquardt 1999; McMurchie and Ebeling 1995, "a
-- feasible solution").
use Rattle.std.specs.Prelude.{◌≡◌, ℕ, ◌<◌, List, length, Some}
use Rattle.routing_problem.specs.Problems.{RoutingProblem}
use Rattle.route_tree.specs.Paths.{Pair}
use Rattle.route_tree.specs.Faults.{IsRoute}
use Rattle.route_tree.specs.Usage.{overuse_of, Lists, list_in}

-- net i has a list, which routes it
abbrev pub IsNetRouted : RoutingProblem → Lists → ℕ → Type 0
IsNetRouted p lists i = (pairs : List Pair) × (list_in lists i ≡ Some pairs) × IsRoute p i pairs

-- one entry for each net, each a list that routes its net, and no node is used beyond its capacity
pub record IsRouted (p : RoutingProblem) (lists : Lists) : Type 0 where
  pub one_each : length lists ≡ length p.nets
  pub routed : (i : ℕ) → i < length p.nets → IsNetRouted p lists i
  pub within : (a : ℕ) → overuse_of p lists a ≡ 0
