-- What is kept of the recorded trees: how many nets use each node, how many nodes are overused, and
-- how many nets have no tree.
use Rattle.std.specs.Prelude.{◌≡◌, ℕ, List, [], length, get_or, Option, Some, None}
use Rattle.routing_problem.specs.Nodes.{node_count_of}
use Rattle.routing_problem.specs.Problems.{RoutingProblem, IsProblem}
use Rattle.route_tree.specs.declared.tree.Row.{Row}
use Rattle.route_tree.specs.Rows.{IsTree}
use Rattle.route_tree.specs.Usage.{use_of, Lists}
use Rattle.congestion_book.specs.kept.Usage.{overused_by}
use Rattle.congestion_book.specs.Recorded.{AreRoutes, unrouted_in}

-- these are the rows of a tree, if there is one
abbrev pub IsTreeOrNone : Option (List Row) → Type 0
IsTreeOrNone (Some rows) = IsTree rows
IsTreeOrNone None = Unit {0}

-- the rows of a tree; none if there is no tree
abbrev pub rows_of : Option (List Row) → List Row
rows_of (Some rows) = rows
rows_of None = []

-- The problem is one, the lists route their nets, and what is kept is exact: how many nets use each
-- node by the lists, how many nodes are overused, and how many nets have no list.
pub record AreRecorded (p : RoutingProblem) (lists : Lists) (counts : List ℕ) (overused unrouted : ℕ) : Type 0 where
  pub problem : IsProblem p
  pub one_each : length lists ≡ length p.nets
  pub routes : AreRoutes p lists
  pub size : length counts ≡ node_count_of p.device
  pub uses : (a : ℕ) → get_or counts a 0 ≡ use_of p.nets lists a
  pub over : overused ≡ overused_by p.device counts
  pub without : unrouted ≡ unrouted_in lists
