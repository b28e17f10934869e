-- What a run does with a problem.
use Rattle.std.specs.Prelude.{◌≡◌, ℕ, List, Option, None, Some, Result, Ok, Err, MatchBool}
use Rattle.rr_graph.specs.Problems.{RoutingProblem}
use Rattle.route_check.specs.Routed.{IsRouted}
use Rattle.iteration.specs.declared.outcome.Outcome.{Outcome}
use Rattle.iteration.specs.declared.outcome.Outcome.TheVariants.{Success, NotRouted}
use Rattle.runs.specs.RouteRun.{routed_text, left_text}
use Rattle.runs.specs.declared.outcome.OutcomeEnd.{OutcomeEnd}
use Rattle.runs.specs.declared.outcome.OutcomeEnd.TheVariants as ended
use Rattle.rr_graph.specs.node.Mode.{Mode}
use Rattle.width_search.specs.declared.report.LeastWidth.{LeastWidth}
use Rattle.run_inputs.specs.Inputs.{PlacedNetlist, placed_problem}
use Rattle.run_inputs.specs.Runs.{TakesNothing, Writing}
use Rattle.run_inputs.specs.declared.fault.AppFault.{AppFault}
use Rattle.run_inputs.specs.declared.fault.AppFault.TheVariants.{Unwritten}

-- the line of an outcome with these numbers
abbrev pub ended_text : OutcomeEnd → List ℕ
ended_text (ended.Routed iterations) = routed_text iterations
ended_text (ended.Left unrouted overused iterations) = left_text unrouted overused iterations

-- a success is a routing of the problem
abbrev pub RoutesProblem : RoutingProblem → Outcome → Type 0
RoutesProblem p (Success lists iterations) = IsRouted p lists
RoutesProblem p (NotRouted unrouted overused iterations) = Unit {0}

-- the routing of the least width routes the problem on a device of that width
abbrev pub RoutesLeast : Mode → PlacedNetlist → Option LeastWidth → Type 0
RoutesLeast mode p (Some least) = IsRouted (placed_problem mode p least.width) least.routing
RoutesLeast mode p None = Unit {0}

-- A file that was written to its end was put into its place, and took no byte for that; or the sink
-- failed.
abbrev pub PutsInPlace : Writing → Result (Unit {0}) AppFault → Type 0
PutsInPlace w result =
    TakesNothing w × MatchBool w.failed (result ≡ Err Unwritten) (result ≡ Ok tt)
