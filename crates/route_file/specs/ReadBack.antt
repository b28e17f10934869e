-- Which routings can be read back from their text (ours).
use Rattle.std.specs.Prelude.{◌≡◌, ℕ, ◌<◌, Bool, true, not, ◌&&◌, nat_lt, List, length, Option, Some, None, slice_index_or}
use Rattle.std.specs.List.{list_any}
use Rattle.rr_graph.specs.Fabric.{Fabric}
use Rattle.rr_graph.specs.Problems.{Net, RoutingProblem, net_in, is_sink}
use Rattle.route_tree.specs.Paths.{Pair}
use Rattle.route_tree.specs.Legality.{is_listed}

-- the list has pairs, they are in the order in which routings are written, and none begins at a
-- sink
abbrev pub is_reported_whole : Fabric → Net → List Pair → Bool
is_reported_whole f n pairs = nat_lt 0 (length pairs) && is_listed f n pairs && not (list_any (λ p. is_sink f p.0) pairs)

abbrev pub tells_whole : Fabric → Net → Option (List Pair) → Bool
tells_whole f n (Some pairs) = is_reported_whole f n pairs
tells_whole f n None = true

-- the text gives each list whole
abbrev pub TellsWhole : RoutingProblem → List (Option (List Pair)) → Type 0
TellsWhole p lists = (i : ℕ) → i < length p.nets → tells_whole p.device (net_in p.nets i) (slice_index_or lists i None) ≡ true
