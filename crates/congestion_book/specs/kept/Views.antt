-- A view from which nets are left out.
use Rattle.std.specs.Prelude.{◌≡◌, ℕ, ◌+◌, ◌-◌, ◌==◌, Bool, nat_le, ◌&&◌, not, List, length, get_or, Option}
use Rattle.std.specs.List.{list_any}
use Rattle.routing_problem.specs.Fabric.{Fabric}
use Rattle.routing_problem.specs.Nodes.{node_at}
use Rattle.node_cost.specs.Views.{NetView, others_in, history_in}
use Rattle.routing_problem.specs.Problems.{RoutingProblem, net_in}
use Rattle.route_tree.specs.declared.tree.Row.{Row}
use Rattle.route_tree.specs.Paths.{Pair}
use Rattle.route_tree.specs.Usage.{use_by, room_of}
use Rattle.congestion_book.specs.Turns.{one_if}
use Rattle.congestion_book.specs.kept.Usage.{times_in}

-- one fewer net uses each of these nodes, and all histories stay
pub record LeavesOut (nodes : List ℕ) (old new : NetView) : Type 0 where
  pub size : length new ≡ length old
  pub others : (a : ℕ) → others_in new a + times_in nodes a ≡ others_in old a
  pub histories : (a : ℕ) → history_in new a ≡ history_in old a

-- all uses of each node but those of net i, with this list; and the node's history
pub record SeesOthers (p : RoutingProblem) (i : ℕ) (list : Option (List Pair)) (counts histories : List ℕ) (view : NetView) : Type 0 where
  pub size : length view ≡ length counts
  pub others : (a : ℕ) → others_in view a + use_by (net_in p.nets i) list a ≡ get_or counts a 0
  pub remembered : (a : ℕ) → history_in view a ≡ get_or histories a 0

-- the node is in one of these rows
abbrev pub stands_in : List Row → ℕ → Bool
stands_in rows a = list_any (λ r. r.node == a) rows

-- how many nets use the node by these counts but the one whose tree has these rows
abbrev pub others_by : (own : List Row) → (counts : List ℕ) → ℕ → ℕ
others_by own counts a = get_or counts a 0 - one_if (stands_in own a)

-- this many others are as many as there is room for, or more, and this many before were fewer
abbrev pub is_newly_full : (room others before : ℕ) → Bool
is_newly_full room others before = nat_le room others && not (nat_le room before)

-- by these counts, without the net whose tree has these rows, the node is full, and it was not by
-- the view
unfoldable pub filled_by : Fabric → (own : List Row) → (counts : List ℕ) → NetView → ℕ → Bool
filled_by f own counts view a = is_newly_full (room_of f (node_at f a)) (others_by own counts a) (others_in view a)
