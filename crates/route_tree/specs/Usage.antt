-- Which nodes the nets of a routing use, and how often (McMurchie and Ebeling 1995, "occupancy").
use Rattle.std.specs.Prelude.{ℕ, ◌+◌, ◌-◌, ◌==◌, Bool, false, ◌||◌, if◌then◌else◌, List, [], ◌∷◌, get_or, set, Option, Some, None}
use Rattle.routing_problem.specs.Fabric.{Fabric}
use Rattle.routing_problem.specs.Nodes.{node_at, capacity_of}
use Rattle.routing_problem.specs.node.Node.{Node}
use Rattle.routing_problem.specs.Problems.{Net, RoutingProblem}
use Rattle.route_tree.specs.Paths.{Pair, ends_of}
use Rattle.route_tree.specs.Legality.{is_among}

-- the node is the source, or the end of a pair
unfoldable pub covers : (source : ℕ) → List Pair → ℕ → Bool
covers source pairs a = source == a || is_among (ends_of pairs) a

-- for each net a list of pairs, or none
abbrev pub Lists : Type 0
Lists = List (Option (List Pair))

-- the list of net i; none past the last entry
abbrev pub list_in : Lists → ℕ → Option (List Pair)
list_in lists i = get_or lists i None

-- a net without a list covers nothing
abbrev pub covers_by : Net → Option (List Pair) → ℕ → Bool
covers_by n (Some pairs) a = covers n.source pairs a
covers_by n None a = false

-- what a net adds to the use of a node: 1 where it covers it
abbrev pub use_by : Net → Option (List Pair) → ℕ → ℕ
use_by n l a = if covers_by n l a then 1 else 0

-- how many nets cover a node: each net counts once, however often its pairs name the node
abbrev pub use_of : List Net → Lists → ℕ → ℕ
use_of [] lists a = 0
use_of (n ∷ ns) [] a = 0
use_of (n ∷ ns) (l ∷ ls) a = use_by n l a + use_of ns ls a

-- how many nets other than net i cover a node: its use where net i has no list
abbrev pub use_by_others : List Net → Lists → (i : ℕ) → ℕ → ℕ
use_by_others nets lists i a = use_of nets (set lists i None) a

-- how many nets a node has room for; none if it is no node
abbrev pub room_of : Fabric → Option Node → ℕ
room_of f (Some n) = capacity_of f n
room_of f None = 0

-- by how many nets a node is used beyond its capacity
unfoldable pub overuse_of : RoutingProblem → Lists → ℕ → ℕ
overuse_of p lists a = use_of p.nets lists a - room_of p.device (node_at p.device a)
