-- When a list of pairs routes a net (Betz, Rose and Marquardt 1999; McMurchie and Ebeling 1995),
-- and when it is in the order in which routings are written (VPR and T-VPack manual 4.30, "Routing
-- File Format").
use Rattle.std.specs.Prelude.{◌≡◌, ℕ, ◌==◌, Bool, true, false, ◌&&◌, ◌||◌, List, [], ◌∷◌, ◌↔◌, Contains, All, count_by}
use Rattle.std.specs.List.{list_any}
use Rattle.routing_problem.specs.Fabric.{Fabric}
use Rattle.routing_problem.specs.Edges.{edge_between}
use Rattle.routing_problem.specs.Problems.{Net, is_sink}
use Rattle.route_tree.specs.Paths.{Pair, ends_of, Path}

abbrev pub is_among : List ℕ → ℕ → Bool
is_among xs a = list_any (λ x. x == a) xs

-- a number is in the list twice
abbrev pub has_twice : List ℕ → Bool
has_twice [] = false
has_twice (x ∷ xs) = is_among xs x || has_twice xs

-- a way leads on from node a to a sink of the net
abbrev pub LeadsToSink : Net → List Pair → ℕ → Type 0
LeadsToSink n pairs a = (s : ℕ) × Contains n.sinks s × Path pairs a s

-- a way leads from the net's source over the pair, and on to a sink of the net
pub record IsJoined (n : Net) (pairs : List Pair) (p : Pair) : Type 0 where
  pub from_source : Path pairs n.source p.1
  pub to_sink : LeadsToSink n pairs p.1

-- the pairs join the net's source to exactly its sinks, through switches of the device, as a tree
pub record IsLegal (f : Fabric) (n : Net) (pairs : List Pair) : Type 0 where
  -- each pair is an edge of the device
  pub switches : All (λ p. edge_between f p.0 p.1 ≡ true) pairs
  -- no two pairs end in one node, and none in the source
  pub once : has_twice (n.source ∷ ends_of pairs) ≡ false
  -- one pair begins at the source
  pub one_output : count_by (λ p. p.0 == n.source) pairs ≡ 1
  -- the sinks at which pairs end are those of the net
  pub sinks : (s : ℕ) → (Contains (ends_of pairs) s × (is_sink f s ≡ true)) ↔ Contains n.sinks s
  pub joined : All (IsJoined n pairs) pairs

-- a pair may begin at node a, after pairs with these ends, the last one first: the first pair at
-- the source; each later one where the pair before it ended, or, where that was a sink, at the
-- source or at an earlier end
abbrev pub may_begin : Fabric → (source : ℕ) → (earlier : List ℕ) → ℕ → Bool
may_begin f source [] a = a == source
may_begin f source (e ∷ es) a = e == a || (is_sink f e && is_among (source ∷ e ∷ es) a)

abbrev pub is_listed_after : Fabric → (source : ℕ) → (earlier : List ℕ) → List Pair → Bool
is_listed_after f source earlier [] = true
is_listed_after f source earlier (p ∷ ps) = may_begin f source earlier p.0 && is_listed_after f source (p.1 ∷ earlier) ps

-- the pairs are in the order in which routings are written: path by path, each path from the source
-- or from a node of the paths before it on to a sink
unfoldable pub is_listed : Fabric → Net → List Pair → Bool
is_listed f n pairs = is_listed_after f n.source [] pairs

abbrev pub IsListed : Fabric → Net → List Pair → Type 0
IsListed f n pairs = is_listed f n pairs ≡ true
