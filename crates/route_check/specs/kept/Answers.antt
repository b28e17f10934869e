-- How the answer for a routing follows from those for its nets and its nodes.
use Rattle.std.specs.Prelude.{◌≡◌, ℕ, ◌<◌, ◌≤◌, List, length, get_or, Option, Some, None}
use Rattle.routing_problem.specs.Fabric.{Fabric}
use Rattle.routing_problem.specs.Problems.{RoutingProblem}
use Rattle.route_check.specs.declared.fault.RouteFault.{RouteFault}
use Rattle.route_check.specs.declared.fault.RouteFault.TheVariants.{Overused}
use Rattle.route_check.specs.Routed.{IsRouted}
use Rattle.route_tree.specs.Usage.{Lists}
use Rattle.route_check.specs.Faults.{IsFirstRouteFault}
use Rattle.route_check.specs.kept.Counted.{excess_of}

-- the fault is at a place, and none is before it
pub record IsFirstAmong (answers : List (Option RouteFault)) (fault : RouteFault) : Type 0 where
  pub place : ℕ
  pub within : place < length answers
  pub there : get_or answers place None ≡ Some fault
  pub before : (j : ℕ) → j < place → get_or answers j None ≡ None

-- the first fault among answers, or none
abbrev pub IsFirstOf : List (Option RouteFault) → Option RouteFault → Type 0
IsFirstOf answers None = (i : ℕ) → i < length answers → get_or answers i None ≡ None
IsFirstOf answers (Some fault) = IsFirstAmong answers fault

-- the fault is that of the least node whose count is above its capacity
pub record IsLeastExcess (f : Fabric) (counts : List ℕ) (fault : RouteFault) : Type 0 where
  pub node : ℕ
  pub by : ℕ
  pub is : fault ≡ Overused node by
  pub excess : excess_of f counts node ≡ by
  pub some : 1 ≤ by
  pub before : (a : ℕ) → a < node → excess_of f counts a ≡ 0

-- the least overused node, or none
abbrev pub TellsExcess : Fabric → List ℕ → Option RouteFault → Type 0
TellsExcess f counts None = (a : ℕ) → excess_of f counts a ≡ 0
TellsExcess f counts (Some fault) = IsLeastExcess f counts fault

-- the answer for a routing: none if it routes the problem, else its first fault
abbrev pub JudgesRouting : RoutingProblem → Lists → Option RouteFault → Type 0
JudgesRouting p lists None = IsRouted p lists
JudgesRouting p lists (Some fault) = IsFirstRouteFault p lists fault
