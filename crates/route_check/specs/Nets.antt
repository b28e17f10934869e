-- What is wrong with each net of a routing.
use Rattle.std.specs.Prelude.{◌≡◌, ℕ, ◌<◌, List, length, get_or, Option, Some, None}
use Rattle.routing_problem.specs.Problems.{RoutingProblem}
use Rattle.route_check.specs.declared.fault.RouteFault.{RouteFault}
use Rattle.route_check.specs.Routed.{IsNetRouted}
use Rattle.route_tree.specs.Usage.{Lists}
use Rattle.route_check.specs.Faults.{HasRouteFault, stage_of, place_of}

-- the fault is one of net i
pub record IsNetFault (p : RoutingProblem) (lists : Lists) (i : ℕ) (fault : RouteFault) : Type 0 where
  pub there : HasRouteFault p lists fault
  pub stage : stage_of fault ≡ 2
  pub place : place_of fault ≡ i

-- the answer for net i: none if it is routed, else its fault
abbrev pub JudgesNet : RoutingProblem → Lists → ℕ → Option RouteFault → Type 0
JudgesNet p lists i None = IsNetRouted p lists i
JudgesNet p lists i (Some fault) = IsNetFault p lists i fault

-- the answers for all nets, in their order
pub record AreJudged (p : RoutingProblem) (lists : Lists) (answers : List (Option RouteFault)) : Type 0 where
  pub size : length answers ≡ length p.nets
  pub each : (i : ℕ) → i < length p.nets → JudgesNet p lists i (get_or answers i None)
