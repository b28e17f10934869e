-- Where the tree of a net turns between a row and a column (VPR 4.30, its statistics of a routing,
-- "bends").
use Rattle.std.specs.Prelude.{ℕ, Bool, true, false, List, [], map, length, Option, Some, None}
use Rattle.std.specs.List.{filter}
use Rattle.routing_problem.specs.node.Kind.{Kind}
use Rattle.routing_problem.specs.node.Kind.TheVariants.{Chanx, Chany}
use Rattle.routing_problem.specs.Fabric.{Fabric, numbers_below}
use Rattle.routing_problem.specs.Nodes.{kind_of_node, node_count_of}
use Rattle.routing_problem.specs.Problems.{RoutingProblem}
use Rattle.route_tree.specs.Legality.{is_among}
use Rattle.route_tree.specs.Paths.{Pair, ends_of}
use Rattle.route_tree.specs.Usage.{Lists, list_in}

-- one is a wire along a row, the other one along a column
abbrev pub turns : Option Kind → Option Kind → Bool
turns (Some Chanx) (Some Chany) = true
turns (Some Chany) (Some Chanx) = true
turns _ _ = false

-- the pair leads from a wire along a row to one along a column, or the other way round
abbrev pub is_bend : Fabric → Pair → Bool
is_bend f pair = turns (kind_of_node f pair.0) (kind_of_node f pair.1)

-- the nodes at which pairs end, ascending
abbrev pub nodes_ended : Fabric → List Pair → List ℕ
nodes_ended f pairs = filter (is_among (ends_of pairs)) (numbers_below (node_count_of f))

-- the pairs of a net; none if it has no list
abbrev pub pairs_in : Option (List Pair) → List Pair
pairs_in (Some pairs) = pairs
pairs_in None = []

-- how many bends net i has: the wires to which a pair leads round a corner, each wire once
unfoldable pub bends_of : RoutingProblem → Lists → ℕ → ℕ
bends_of p lists i = length (nodes_ended p.device (filter (is_bend p.device) (pairs_in (list_in lists i))))

-- those of each net
abbrev pub bends_of_nets : RoutingProblem → Lists → List ℕ
bends_of_nets p lists = map (bends_of p lists) (numbers_below (length p.nets))
