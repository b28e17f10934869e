-- What a congestion book holds, and when it is sound (McMurchie and Ebeling 1995, "occupancy",
-- "history of congestion").
use Rattle.std.specs.Prelude.{◌≡◌, ℕ, ◌-◌, ◌<◌, ◌≤◌, List, [], ◌∷◌, ◌++◌, length, map, get_or, replicate, Option, None, All}
use Rattle.routing_problem.specs.Fabric.{numbers_below}
use Rattle.routing_problem.specs.Nodes.{node_count_of}
use Rattle.routing_problem.specs.Problems.{RoutingProblem}
use Rattle.route_tree.specs.Usage.{use_of, use_by_others, Lists}
use Rattle.node_cost.specs.Options.{most_iterations}
use Rattle.node_cost.specs.Views.{NetView}
use Rattle.congestion_book.specs.declared.turn.Turn.{Turn}
use Rattle.congestion_book.specs.Turns.{TurnTable, AreInOrder}
use Rattle.congestion_book.specs.Recorded.{AreRoutes}
use Rattle.congestion_book.specs.Histories.{Amount, IsRow, history_of}

pub record Content : Type 0 where
  pub problem : RoutingProblem
  -- by how much a history grows for each net of overuse
  pub acc : ℕ
  -- the recorded tree of each net as its pairs, or none
  pub lists : Lists
  -- the occupancy of each node: how many nets use it
  pub occupancies : List ℕ
  -- the overused nodes of each closed iteration
  pub rows : List (List Amount)
  -- the history of each node
  pub histories : List ℕ
  -- in the open iteration, how many nets were drawn, the worker that holds each net, and the turns
  -- made
  pub drawn : ℕ
  pub holders : List (Option ℕ)
  pub turns : List Turn
  -- the turns made in each closed iteration
  pub earlier : List (List Turn)

abbrev pub net_count : Content → ℕ
net_count c = length c.problem.nets

abbrev pub node_total : Content → ℕ
node_total c = node_count_of c.problem.device

-- who holds which net, and who had its turn at it
abbrev pub table_in : Content → TurnTable
table_in c = record { drawn = c.drawn; holders = c.holders; turns = c.turns; earlier = c.earlier }

-- The congestion invariant.
pub record IsSound (c : Content) : Type 0 where
  -- each recorded tree joins its net's source to exactly its sinks through switches of the device
  pub one_each : length c.lists ≡ net_count c
  pub routes : AreRoutes c.problem c.lists
  -- each occupancy is the number of recorded trees that use the node
  pub occupied : length c.occupancies ≡ node_total c
  pub uses : (a : ℕ) → get_or c.occupancies a 0 ≡ use_of c.problem.nets c.lists a
  -- each history is the accumulated overuse
  pub remembered : length c.histories ≡ node_total c
  pub accumulated : (a : ℕ) → a < node_total c → get_or c.histories a 0 ≡ history_of c.acc c.rows a
  -- each net below the count drawn is held or had one turn, and in each closed iteration each net
  -- had one
  pub held : length c.holders ≡ net_count c
  pub order : AreInOrder (table_in c)
  -- there is a row for each closed iteration, and at most 500
  pub rows : length c.rows ≡ length c.earlier
  pub few : length c.rows ≤ most_iterations
  pub formed : All (IsRow (node_total c) (net_count c)) c.rows

-- nothing was drawn in the open iteration
abbrev pub IsFresh : Content → Type 0
IsFresh c = c.drawn ≡ 0

-- a new book: no lists, no rows, nothing drawn
abbrev pub opening : RoutingProblem → (acc : ℕ) → Content
opening p acc = record {
  problem = p;
  acc = acc;
  lists = replicate (length p.nets) None;
  occupancies = replicate (node_count_of p.device) 0;
  rows = [];
  histories = replicate (node_count_of p.device) 0;
  drawn = 0;
  holders = replicate (length p.nets) None;
  turns = [];
  earlier = [];
}

-- What net i sees of the others: how many other nets use each node, and the node's history.
unfoldable pub view_of : Content → ℕ → NetView
view_of c i = map (λ a. (use_by_others c.problem.nets c.lists i a, history_of c.acc c.rows a)) (numbers_below (node_total c))

-- the turns of iteration k, counted from 1; the open one is the last
abbrev pub turns_of : Content → ℕ → List Turn
turns_of c k = get_or (c.earlier ++ c.turns ∷ []) (k - 1) []
