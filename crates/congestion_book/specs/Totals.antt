-- What a view shows if no net is left out, and what a turn changes in it.
use Rattle.std.specs.Prelude.{◌≡◌, ℕ, ◌<◌, List, length, set, Option}
use Rattle.routing_problem.specs.Problems.{IsProblem}
use Rattle.route_tree.specs.declared.tree.Row.{Row}
use Rattle.route_tree.specs.Paths.{Pair}
use Rattle.route_tree.specs.TreeLists.{list_of_tree}
use Rattle.route_tree.specs.Usage.{use_of, list_in}
use Rattle.node_cost.specs.Views.{NetView, others_in, history_in}
use Rattle.congestion_book.specs.Histories.{history_of}
use Rattle.congestion_book.specs.Recorded.{AreRoutes, RoutesOrNone}
use Rattle.congestion_book.specs.Contents.{Content, net_count, node_total, view_of}

-- The view shows how many nets use each node by the lists of the book, which route their nets, and
-- the node's history.
pub record ShowsAll (c : Content) (view : NetView) : Type 0 where
  pub problem : IsProblem c.problem
  pub one_each : length c.lists ≡ net_count c
  pub routes : AreRoutes c.problem c.lists
  pub size : length view ≡ node_total c
  pub uses : (a : ℕ) → others_in view a ≡ use_of c.problem.nets c.lists a
  pub remembered : (a : ℕ) → a < node_total c → history_in view a ≡ history_of c.acc c.rows a

-- the book with this list, or none, for a net
abbrev pub with_list : Content → (net : ℕ) → Option (List Pair) → Content
with_list c net list = record c { lists = set c.lists net list }

-- The view shows all nets of the book, in which this net has this tree, or none.
pub record ShowsNet (c : Content) (net : ℕ) (tree : Option (List Row)) (view : NetView) : Type 0 where
  pub all : ShowsAll c view
  pub there : net < net_count c
  pub own : list_in c.lists net ≡ list_of_tree tree

-- The view shows all nets but this one, which has this tree, or none.
pub record LacksNet (c : Content) (net : ℕ) (tree : Option (List Row)) (view : NetView) : Type 0 where
  pub before : NetView
  pub shown : ShowsNet c net tree before
  pub is : view ≡ view_of c net

-- The view shows all nets, this one has the tree of before, and the other tree routes it.
pub record MayReplace (c : Content) (net : ℕ) (before after : Option (List Row)) (view : NetView) : Type 0 where
  pub shown : ShowsNet c net before view
  pub routes : RoutesOrNone c.problem net (list_of_tree after)
