-- What a cell holds, what a search found, what a worker's replica has, and what the lock protects.
use Rattle.std.specs.Prelude.{◌≡◌, ℕ, ◌-◌, ◌<◌, if◌then◌else◌, Bool, false, List, [], ◌∷◌, ◌++◌, length, take, map, get_or, Option}
use Rattle.route_tree.specs.declared.tree.Row.{Row}
use Rattle.route_tree.specs.TreeLists.{lists_of_trees}
use Rattle.node_cost.specs.Views.{NetView}
use Rattle.congestion_book.specs.Totals.{ShowsAll}
use Rattle.congestion_book.specs.Contents.{Content, net_count}
use Rattle.routing_problem.specs.Problems.{RoutingProblem}
use Rattle.net_workers.specs.declared.made_turn.MadeTurn.{MadeTurn}
use Rattle.net_workers.specs.kept.Routes.{RoutesNet}
use Rattle.net_workers.specs.kept.TurnLogs.{Plan, lists_after, book_after, turns_for, turn_in_book, Follows, IsFoundAfter}

-- all but the last
abbrev pub before_last : List MadeTurn → List MadeTurn
before_last log = take (length log - 1) log

-- a turn, and the history that ends with it
pub record Written : Type 0 where
  pub turn : MadeTurn
  pub log : List MadeTurn

abbrev pub IsPage : List MadeTurn → MadeTurn → Type 0
IsPage log t = log ≡ before_last log ++ t ∷ []

-- the turn comes next after these
pub record IsNext (p : Plan) (log : List MadeTurn) (t : MadeTurn) (longer : List MadeTurn) : Type 0 where
  pub one_more : longer ≡ log ++ t ∷ []
  pub follows : Follows p log t

-- a net, the tree that a search found for it, or none, and the turns that were seen
pub record Searched : Type 0 where
  pub net : ℕ
  pub tree : Option (List Row)
  pub log : List MadeTurn

-- the net is one of the iteration's, and the tree is what a search finds after these turns
pub record IsSearched (p : Plan) (net : ℕ) (tree : Option (List Row)) (log : List MadeTurn) : Type 0 where
  pub there : net < net_count p.opening
  pub found : IsFoundAfter p log net tree
  pub routes : RoutesNet p.opening.problem net tree

-- which nets had one of the turns
pub record AreTurned (p : Plan) (turned : List Bool) (log : List MadeTurn) : Type 0 where
  pub all : length turned ≡ net_count p.opening
  pub once : (net : ℕ) → turns_for net log ≡ (if get_or turned net false then 1 else 0)

-- the view shows all nets after these turns
pub record IsReplica (p : Plan) (view : NetView) (turned : List Bool) (log : List MadeTurn) : Type 0 where
  pub shows : ShowsAll (book_after p log) view
  pub nets : AreTurned p turned log

-- what all workers read with no lock: the problem, what they search with, and the trees with which
-- the iteration opens
pub record IsBoard (p : Plan) (problem : RoutingProblem) (present bb workers : ℕ) (trees : List (Option (List Row))) : Type 0 where
  pub of : problem ≡ p.opening.problem
  pub factor : present ≡ p.present
  pub margin : bb ≡ p.bb
  pub count : workers ≡ p.workers
  pub opens : lists_of_trees trees ≡ p.opening.lists

-- the desk's book has the lists after these turns, and the turns
pub record IsLogged (p q : Plan) (c : Content) (log : List MadeTurn) : Type 0 where
  pub same : q ≡ p
  pub lists : c.lists ≡ lists_after p.opening.lists log
  pub turns : c.turns ≡ map turn_in_book log
