-- Trees that are grown way by way (McMurchie and Ebeling 1995, "signal router").
use Rattle.std.specs.Prelude.{◌≡◌, ℕ, ◌≤◌, ◌⊎◌, List, [], ◌++◌, length, Contains}
use Rattle.std.specs.List.{filter}
use Rattle.routing_problem.specs.Problems.{Net, RoutingProblem, net_in}
use Rattle.node_cost.specs.Views.{NetView}
use Rattle.route_tree.specs.declared.tree.Row.{Row}
use Rattle.route_tree.specs.Paths.{Pair, ends_of}
use Rattle.route_tree.specs.Legality.{is_among, IsLegal, IsListed}
use Rattle.route_tree.specs.Faults.{IsRoute}
use Rattle.route_tree.specs.Rows.{node_in, pairs_of, pairs_along}
use Rattle.wavefront.specs.declared.search_outcome.Found.{Found}
use Rattle.wavefront.specs.declared.search_outcome.Found.TheVariants.{Tree, NoPath}
use Rattle.wavefront.specs.Space.{Space, IsInside, IsWanted}
use Rattle.wavefront.specs.Ways.{AreDistinct, IsWay, way_cost}

-- the tree has the node
abbrev pub Covers : Space → List Pair → ℕ → Type 0
Covers s tree v = (v ≡ s.net.source) ⊎ Contains (ends_of tree) v

-- a way may start here: at the tree, and at the source while it is the whole tree
pub record IsStart (s : Space) (tree : List Pair) (v : ℕ) : Type 0 where
  pub covered : Covers s tree v
  pub alone : v ≡ s.net.source → tree ≡ []

-- a sink of the net that the tree has yet to reach
pub record IsTarget (s : Space) (tree : List Pair) (v : ℕ) : Type 0 where
  pub sink : IsWanted s v
  pub apart : Covers s tree v → ⊥

-- a way by which the tree may grow: from the tree to a sink that it lacks, through nodes that it
-- lacks
pub record IsExtension (s : Space) (tree : List Pair) (a : ℕ) (way : List ℕ) (b : ℕ) : Type 0 where
  pub start : IsStart s tree a
  pub walk : IsWay s a way b
  pub apart : (v : ℕ) → Contains way v → Covers s tree v → ⊥
  pub target : IsTarget s tree b

-- a way by which the tree may grow, that enters no node twice, and none costs less
pub record IsLeastExtension (s : Space) (tree : List Pair) (a : ℕ) (way : List ℕ) (b : ℕ) : Type 0 where
  pub extension : IsExtension s tree a way b
  pub distinct : AreDistinct way
  pub least : (c d : ℕ) (other : List ℕ) → IsExtension s tree c other d → way_cost s way ≤ way_cost s other

-- a tree made of least ways, each for those before it
pub data IsGrown (s : Space) : List Pair → Type 0 where
  alone : IsGrown s []
  grown : (tree : List Pair) (a : ℕ) (way : List ℕ) (b : ℕ) → IsGrown s tree → IsLeastExtension s tree a way b → IsGrown s (tree ++ pairs_along a way)

-- the net with only those of its sinks that the pairs reach
abbrev pub net_reached : Net → List Pair → Net
net_reached n pairs = record { number = n.number; source = n.source; sinks = filter (is_among (ends_of pairs)) n.sinks }

-- the pairs route the net as far as they reach
pub record IsRouteSoFar (s : Space) (pairs : List Pair) : Type 0 where
  pub reaches : 1 ≤ length (net_reached s.net pairs).sinks
  pub legal : IsLegal s.device (net_reached s.net pairs) pairs
  pub listed : IsListed s.device (net_reached s.net pairs) pairs

-- a part of a tree for the net: the source alone, or pairs that route it as far as they reach, all
-- inside the box
pub record IsPart (s : Space) (pairs : List Pair) : Type 0 where
  pub inside : (v : ℕ) → Covers s pairs v → IsInside s v
  pub route : (pairs ≡ []) ⊎ IsRouteSoFar s pairs

-- no way leads from the tree to any sink that it lacks
abbrev pub IsShut : Space → List Pair → Type 0
IsShut s tree = (a b : ℕ) (way : List ℕ) → IsStart s tree a → IsTarget s tree b → IsWay s a way b → ⊥

-- this part is grown from least ways, v is the least sink that it lacks, and no way leads on to any
-- that it lacks
pub record IsStuckAt (s : Space) (tree : List Pair) (v : ℕ) : Type 0 where
  pub part : IsPart s tree
  pub grown : IsGrown s tree
  pub target : IsTarget s tree v
  pub least : (b : ℕ) → IsTarget s tree b → v ≤ b
  pub shut : IsShut s tree

-- the net can't be routed on from some part of a tree, whose least missing sink is v
abbrev pub IsStuck : Space → ℕ → Type 0
IsStuck s v = (tree : List Pair) × IsStuckAt s tree v

-- a net of a problem, what it sees of the others, the present-congestion factor, and the margin of
-- its box
abbrev pub space_of : RoutingProblem → ℕ → NetView → (present bb : ℕ) → Space
space_of p i view present bb = record { device = p.device; net = net_in p.nets i; view = view; present = present; bb = bb }

-- the tree routes the space's net, is grown from least ways, and stays inside the box
pub record IsWhole (s : Space) (rows : List Row) : Type 0 where
  pub root : node_in rows 0 ≡ s.net.source
  pub legal : IsLegal s.device s.net (pairs_of rows)
  pub listed : IsListed s.device s.net (pairs_of rows)
  pub inside : (v : ℕ) → Covers s (pairs_of rows) v → IsInside s v
  pub grown : IsGrown s (pairs_of rows)

-- such a tree, or the least sink where the net is stuck
abbrev pub IsAnswer : Space → Found → Type 0
IsAnswer s (Tree rows) = IsWhole s rows
IsAnswer s (NoPath v) = IsStuck s v

-- where a tree is found, it routes net i of the problem
abbrev pub RoutesIfFound : RoutingProblem → ℕ → Found → Type 0
RoutesIfFound p i (Tree rows) = IsRoute p i (pairs_of rows)
RoutesIfFound p i (NoPath v) = Unit {0}
