-- What a net sees when it looks again while it is held, and whether the others have filled a node
-- of its tree since it looked.
use Rattle.std.specs.Prelude.{◌≡◌, ◌≢◌, ℕ, nat_le, Bool, ◌&&◌, not, List, length, Result, Ok, Err}
use Rattle.std.specs.List.{list_any}
use Rattle.routing_problem.specs.Nodes.{node_at}
use Rattle.routing_problem.specs.Problems.{RoutingProblem}
use Rattle.route_tree.specs.declared.tree.Row.{Row}
use Rattle.route_tree.specs.Usage.{use_by_others, room_of, Lists}
use Rattle.node_cost.specs.Views.{NetView, others_in}
use Rattle.congestion_book.specs.declared.faults.DrawFault.{DrawFault}
use Rattle.congestion_book.specs.declared.faults.DrawFault.TheVariants.{ViewSize}
use Rattle.congestion_book.specs.Contents.{Content, node_total, view_of}
use Rattle.congestion_book.specs.Totals.{ShowsAll}

-- A look gives the view of the net, as a draw does. A view of another size is refused.
abbrev pub Looks : Content → NetView → (net : ℕ) → Result (Unit {0}) DrawFault → NetView → Type 0
Looks c seen net (Ok done) sees = (length seen ≡ node_total c) × (sees ≡ view_of c net)
Looks c seen net (Err ViewSize) sees = (length seen ≢ node_total c) × (sees ≡ seen)

-- A look at all gives a view in which no net is left out. A view of another size is refused.
abbrev pub LooksAtAll : Content → NetView → Result (Unit {0}) DrawFault → NetView → Type 0
LooksAtAll c seen (Ok done) sees = (length seen ≡ node_total c) × ShowsAll c sees
LooksAtAll c seen (Err ViewSize) sees = (length seen ≢ node_total c) × (sees ≡ seen)

-- this many other nets are as many as the node has room for, or more
abbrev pub fills : RoutingProblem → ℕ → (others : ℕ) → Bool
fills p a others = nat_le (room_of p.device (node_at p.device a)) others

-- the node is full now by the others of net i, and was not by those in the view
unfoldable pub has_filled : RoutingProblem → Lists → (i : ℕ) → NetView → ℕ → Bool
has_filled p lists i view a = fills p a (use_by_others p.nets lists i a) && not (fills p a (others_in view a))

-- a node of the tree of these rows is full now by the others of net i, and was not by those in the
-- view
abbrev pub have_filled : Content → (i : ℕ) → NetView → List Row → Bool
have_filled c i view rows = list_any (λ r. has_filled c.problem c.lists i view r.node) rows
