-- Pairs in order: what comes before one, and where the last one ends.
use Rattle.std.specs.Prelude.{ℕ, ◌-◌, Bool, List, length, reverse, take}
use Rattle.routing_problem.specs.Fabric.{Fabric}
use Rattle.routing_problem.specs.Problems.{is_sink}
use Rattle.route_tree.specs.Paths.{Pair, ends_of}
use Rattle.route_check.specs.kept.Ends.{end_in}

-- the ends of the pairs before one, the last one first
abbrev pub earlier_ends : List Pair → ℕ → List ℕ
earlier_ends pairs k = reverse (ends_of (take k pairs))

-- the last pair ends in a sink
abbrev pub ends_in_sink : Fabric → List Pair → Bool
ends_in_sink f pairs = is_sink f (end_in pairs (length pairs - 1))
