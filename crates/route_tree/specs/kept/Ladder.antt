-- The tests by which a tree's first fault is found, one after the other.
use Rattle.std.specs.Prelude.{◌≡◌, ℕ, ◌+◌, ◌-◌, ◌<◌, ◌==◌, Bool, true, false, not, ◌||◌, nat_le, List, [], ◌∷◌, length, get_or, Option, Some, None, Result, Ok, Err, if◌then◌else◌, take}
use Rattle.std.specs.List.{list_any}
use Rattle.routing_problem.specs.Fabric.{Fabric, numbers_below}
use Rattle.routing_problem.specs.Problems.{RoutingProblem, net_in, is_sink}
use Rattle.route_tree.specs.declared.fault.TreeFault.{TreeFault}
use Rattle.route_tree.specs.declared.fault.TreeFault.TheVariants.{NoNet, WrongSource, NoSwitch, NodeTwice, SecondOutput, ForeignSink, Dangling, MissingSink, Order}
use Rattle.route_tree.specs.Paths.{Pair, ends_of}
use Rattle.route_tree.specs.Legality.{is_among}
use Rattle.route_tree.specs.Faults.{begins_elsewhere, lacks_switch, reaches_twice, leaves_twice, has_foreign_sink, misses_sink}

-- each pair begins at the source or where an earlier one ends, as those of a tree do
abbrev pub HangOnEarlier : (source : ℕ) → List Pair → Type 0
HangOnEarlier source pairs = (k : ℕ) → k < length pairs → is_among (source ∷ ends_of (take k pairs)) (get_or pairs k (0, 0)).0 ≡ true

-- a pair ends neither in one of the sinks nor where a later pair begins
abbrev pub has_dead_end : (sinks : List ℕ) → List Pair → Bool
has_dead_end sinks [] = false
has_dead_end sinks (p ∷ ps) = not (is_among sinks p.1 || list_any (λ q. q.0 == p.1) ps) || has_dead_end sinks ps

-- pair k ends in no sink, and the next one doesn't begin there
abbrev pub breaks_at : Fabric → List Pair → ℕ → Bool
breaks_at f pairs k =
    not ((get_or pairs (k + 1) (0, 0)).0 == (get_or pairs k (0, 0)).1 || is_sink f (get_or pairs k (0, 0)).1)

-- a pair begins elsewhere than the one before ended, which was no sink
abbrev pub breaks_off : Fabric → List Pair → Bool
breaks_off f pairs = list_any (breaks_at f pairs) (numbers_below (length pairs - 1))

-- the first test that the pairs fail, among those for which the sinks are marked
abbrev pub sink_fault_of : Fabric → (sinks : List ℕ) → List Pair → Option TreeFault
sink_fault_of f sinks pairs =
    if has_foreign_sink f sinks pairs then Some ForeignSink
    else (if has_dead_end sinks pairs then Some Dangling
    else (if misses_sink sinks pairs then Some MissingSink
    else (if breaks_off f pairs then Some Order else None)))

-- among those for pairs that are switches
abbrev pub marked_fault_of : Fabric → (source : ℕ) → (sinks : List ℕ) → List Pair → Option TreeFault
marked_fault_of f source sinks pairs =
    if reaches_twice source pairs then Some NodeTwice
    else (if leaves_twice source pairs then Some SecondOutput else sink_fault_of f sinks pairs)

-- among all, for a net that exists
abbrev pub net_fault_of : Fabric → (source : ℕ) → (sinks : List ℕ) → List Pair → Option TreeFault
net_fault_of f source sinks pairs =
    if begins_elsewhere source pairs then Some WrongSource
    else (if lacks_switch f pairs then Some NoSwitch else marked_fault_of f source sinks pairs)

-- the first fault of pairs for net i of a problem
unfoldable pub fault_of : RoutingProblem → ℕ → List Pair → Option TreeFault
fault_of p i pairs =
    if nat_le (length p.nets) i then Some NoNet else net_fault_of p.device (net_in p.nets i).source (net_in p.nets i).sinks pairs

-- Ok where there is no fault
abbrev pub or_ok : Option TreeFault → Result (Unit {0}) TreeFault
or_ok None = Ok tt
or_ok (Some fault) = Err fault
