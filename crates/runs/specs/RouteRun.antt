-- What a run of `route` answers, writes and prints (ours).
use Rattle.std.specs.Prelude.{◌≡◌, ℕ, Bool, true, List, ◌++◌, codes, decimal, Result, Err, MatchBool}
use Rattle.node_cost.specs.Options.{RouterOptions}
use Rattle.route_tree.specs.Usage.{Lists}
use Rattle.route_file.specs.Text.{text_of}
use Rattle.net_workers.specs.Schedules.{TurnRule}
use Rattle.iteration.specs.declared.outcome.Outcome.{Outcome}
use Rattle.iteration.specs.declared.outcome.Outcome.TheVariants.{Success, NotRouted}
use Rattle.iteration.specs.Outcomes as negotiation
use Rattle.run_inputs.specs.declared.fault.AppFault.{AppFault}
use Rattle.run_inputs.specs.declared.fault.AppFault.TheVariants.{Unwritten}
use Rattle.run_inputs.specs.Inputs.{PlacedDesign}
use Rattle.run_inputs.specs.Runs.{StopsOrGoesOn, PrintsText, TakesAll, TakesFront, TakesNothing, Writing}

-- ---- the line of an outcome

-- as `routed, iterations 3`
unfoldable pub routed_text : (iterations : ℕ) → List ℕ
routed_text iterations = codes "routed, iterations " ++ (decimal iterations ++ codes "\n")

-- as `not routed: unrouted 0, overused 1, iterations 30`
unfoldable pub left_text : (unrouted overused iterations : ℕ) → List ℕ
left_text unrouted overused iterations =
    codes "not routed: unrouted "
    ++ (decimal unrouted ++ (codes ", overused " ++ (decimal overused ++ (codes ", iterations " ++ (decimal iterations ++ codes "\n")))))

abbrev pub outcome_text : Outcome → List ℕ
outcome_text (Success lists iterations) = routed_text iterations
outcome_text (NotRouted unrouted overused iterations) = left_text unrouted overused iterations

-- the exit status of an outcome
abbrev pub status_of_outcome : Outcome → ℕ
status_of_outcome (Success lists iterations) = 0
status_of_outcome (NotRouted unrouted overused iterations) = 3

-- ---- what is written

-- A success is written: its text goes to `route`. If that failed, Unwritten is answered and `out`
-- took nothing; else the line is printed to `out`.
abbrev pub WritesSuccess : (route out : Writing) → PlacedDesign → Lists → (iterations : ℕ) → Result Outcome AppFault → Type 0
WritesSuccess route out d lists iterations result =
    let text = text_of d.netlist d.placement d.problem lists in
    MatchBool route.failed
    ((result ≡ Err Unwritten) × TakesFront route text × TakesNothing out)
    (TakesAll route text × PrintsText out (routed_text iterations) (Success lists iterations) result)

-- An outcome is written: a success as above; else its line is printed to `out`, and `route` took
-- nothing.
abbrev pub WritesOutcome : (route out : Writing) → PlacedDesign → Outcome → Result Outcome AppFault → Type 0
WritesOutcome route out d (Success lists iterations) result = WritesSuccess route out d lists iterations result
WritesOutcome route out d (NotRouted unrouted overused iterations) result =
    TakesNothing route × PrintsText out (left_text unrouted overused iterations) (NotRouted unrouted overused iterations) result

-- the routing of a success is in its place
abbrev pub PlacesOutcome : (is_placed : Bool) → Outcome → Type 0
PlacesOutcome is_placed (Success lists iterations) = is_placed ≡ true
PlacesOutcome is_placed (NotRouted unrouted overused iterations) = Unit {0}

-- A design's problem is negotiated: the outcome is one of the negotiation by these rules, a success
-- is a routing of the problem, and the outcome is written.
abbrev pub RoutesDesign : RouterOptions → (workers : ℕ) → TurnRule → (route out : Writing) → PlacedDesign → Result Outcome AppFault → Type 0
RoutesDesign o workers allows route out d result =
    (outcome : Outcome)
    × negotiation.IsOutcome d.problem o outcome
    × negotiation.EndsNegotiation d.problem o workers allows outcome
    × WritesOutcome route out d outcome result

-- A run of `route`, free faults aside: if its files have a fault, neither sink takes anything; if
-- they say a design, its problem is negotiated, and the outcome is written.
abbrev pub RunsRoute : RouterOptions → (workers : ℕ) → TurnRule → (route out : Writing) → Result PlacedDesign AppFault → Result Outcome AppFault → Type 0
RunsRoute o workers allows route out = StopsOrGoesOn (TakesNothing route × TakesNothing out) (RoutesDesign o workers allows route out)
