-- The nodes that a routing's text names for a list of pairs (VPR and T-VPack manual 4.30, "Routing
-- File Format").
use Rattle.std.specs.Prelude.{ℕ, ◌==◌, Bool, false, not, ◌&&◌, if◌then◌else◌, List, [], ◌∷◌, ◌++◌, Option, Some, None}
use Rattle.rr_graph.specs.Fabric.{Fabric}
use Rattle.rr_graph.specs.Problems.{is_sink}
use Rattle.route_tree.specs.Paths.{Pair}

-- a pair goes on from where the one before it ended, which is no sink
abbrev pub goes_on : Fabric → (before : Option ℕ) → Pair → Bool
goes_on f None p = false
goes_on f (Some a) p = p.0 == a && not (is_sink f a)

-- the nodes that are named for a pair: if it goes on from the pair before it, its second alone,
-- else both
abbrev pub nodes_for : Fabric → (before : Option ℕ) → Pair → List ℕ
nodes_for f before p = if goes_on f before p then p.1 ∷ [] else (p.0 ∷ p.1 ∷ [])

-- those for pairs after one that ended at a node
abbrev pub nodes_after : Fabric → (before : Option ℕ) → List Pair → List ℕ
nodes_after f before [] = []
nodes_after f before (p ∷ ps) = nodes_for f before p ++ nodes_after f (Some p.1) ps

-- those for all pairs of a net
abbrev pub printed_nodes : Fabric → List Pair → List ℕ
printed_nodes f pairs = nodes_after f None pairs
