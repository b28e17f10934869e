-- What the judging of one net's list gives.
use Rattle.std.specs.Prelude.{◌≡◌, ℕ, Bool, ◌&&◌, not, List, Option, Some, None, MatchOption, if◌then◌else◌, All}
use Rattle.std.specs.Bool.{MatchBool}
use Rattle.routing_problem.specs.Fabric.{Fabric}
use Rattle.routing_problem.specs.Problems.{RoutingProblem, Net, is_sink}
use Rattle.route_tree.specs.declared.fault.TreeFault.{TreeFault}
use Rattle.route_tree.specs.declared.fault.TreeFault.TheVariants.{WrongSource, NoSwitch, NodeTwice, SecondOutput, ForeignSink, Dangling, MissingSink, Order}
use Rattle.route_tree.specs.Paths.{Pair}
use Rattle.route_check.specs.declared.listing.End.{End}
use Rattle.route_tree.specs.Legality.{is_among, IsJoined, is_listed}
use Rattle.route_tree.specs.Faults.{begins_elsewhere, lacks_switch, reaches_twice, leaves_twice, has_foreign_sink, misses_sink, IsFirstFault, IsRoute}

-- the answer for a list: none if it routes the net, else its first fault
abbrev pub Judges : RoutingProblem → ℕ → List Pair → Option TreeFault → Type 0
Judges p i pairs None = IsRoute p i pairs
Judges p i pairs (Some fault) = IsFirstFault p i pairs fault

-- a net of this source and these sinks
abbrev pub net_of : (source : ℕ) → (sinks : List ℕ) → Net
net_of source sinks = record { number = 0; source = source; sinks = sinks }

-- a pair is on no way from the source to one of the sinks
abbrev pub Dangles : (source : ℕ) → (sinks : List ℕ) → List Pair → Type 0
Dangles source sinks pairs = ¬ All (IsJoined (net_of source sinks) pairs) pairs

-- the end is in a sink of the device that is none of these
abbrev pub is_foreign : Fabric → (sinks : List ℕ) → End → Bool
is_foreign f sinks e = is_sink f e.node && not (is_among sinks e.node)

-- the first fault of those that are seen pair by pair
unfoldable pub early_fault_of : Fabric → (source : ℕ) → (sinks : List ℕ) → List Pair → Option TreeFault
early_fault_of f source sinks pairs =
    if begins_elsewhere source pairs then Some WrongSource
    else (if lacks_switch f pairs then Some NoSwitch
    else (if reaches_twice source pairs then Some NodeTwice
    else (if leaves_twice source pairs then Some SecondOutput
    else (if has_foreign_sink f sinks pairs then Some ForeignSink else None))))

-- the first fault of the others, where it is known whether a pair dangles, and whether the pairs
-- are in order
unfoldable pub late_fault_of : (dangles listed : Bool) → (sinks : List ℕ) → List Pair → Option TreeFault
late_fault_of dangles listed sinks pairs =
    if dangles then Some Dangling
    else (if misses_sink sinks pairs then Some MissingSink
    else (if listed then None else Some Order))

-- the test says whether a pair dangles
abbrev pub TellsDangling : (dangles : Bool) → (source : ℕ) → (sinks : List ℕ) → List Pair → Type 0
TellsDangling dangles source sinks pairs = MatchBool dangles (Dangles source sinks pairs) (All (IsJoined (net_of source sinks) pairs) pairs)

-- the answer by the tests, where a later one asks whether a pair dangles
abbrev pub IsReportedLate : Fabric → (source : ℕ) → (sinks : List ℕ) → List Pair → Option TreeFault → Type 0
IsReportedLate f source sinks pairs reported =
    (dangles : Bool) × TellsDangling dangles source sinks pairs
    × (reported ≡ late_fault_of dangles (is_listed f (net_of source sinks) pairs) sinks pairs)

-- the answer by the tests
abbrev pub IsReportedBy : Fabric → (source : ℕ) → (sinks : List ℕ) → List Pair → Option TreeFault → Type 0
IsReportedBy f source sinks pairs reported =
    MatchOption (early_fault_of f source sinks pairs) (IsReportedLate f source sinks pairs reported) (λ fault. reported ≡ Some fault)
