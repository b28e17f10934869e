-- What the fields of a book and of its parts mean, and what is true of them.
use Rattle.std.specs.Prelude.{◌≡◌, ℕ, ◌+◌, ◌<◌, ◌≤◌, length, vec_capacity, is_some, count_by, All}
use Rattle.std.specs.Arc.{arc_value}
use Rattle.congestion_book.specs.Turns.{TurnTable, AreInOrder}
use Rattle.congestion_book.specs.Histories.{amount_in}
use Rattle.congestion_book.specs.kept.HistoryTables.{HistoryTable, AreHistories}
use Rattle.congestion_book.specs.declared.history.History.TheInside as history
use Rattle.routing_problem.specs.Nodes.{node_count_of}
use Rattle.routing_problem.specs.Problems.{RoutingProblem, IsProblem}
use Rattle.route_tree.specs.TreeLists.{lists_of_trees}
use Rattle.node_cost.specs.Options.{most_iterations}
use Rattle.congestion_book.specs.kept.Usage.{overused_by}
use Rattle.congestion_book.specs.Recorded.{unrouted_in}
use Rattle.route_tree.specs.Usage.{Lists}
use Rattle.congestion_book.specs.kept.Counts.{AreRecorded}
use Rattle.congestion_book.specs.Contents.{Content, IsSound}
use Rattle.congestion_book.specs.declared.book.Book.TheInside as book
use Rattle.congestion_book.specs.declared.routes.Routes.{Routes}
use Rattle.congestion_book.specs.declared.turns.Turns.TheInside as turns

abbrev pub history_table : history.Inside → HistoryTable
history_table h = record { acc = h.acc; rows = h.rows.items; histories = arc_value h.histories }

-- each history is exact, and no amount is greater than there can be nets
pub record IsHistory (h : history.Inside) : Type 0 where
  pub exact : AreHistories h.acc h.rows.items (arc_value h.histories)
  pub bounded : All (λ row. (a : ℕ) → amount_in row a ≤ 65535) h.rows.items
  pub acc : h.acc ≤ 65535
  pub few : length h.rows.items ≤ most_iterations
  pub room : most_iterations ≤ vec_capacity h.rows

-- for each net the pairs of its recorded tree, or none
abbrev pub lists_kept : Routes → Lists
lists_kept r = lists_of_trees r.trees.items

-- what is counted of the recorded trees is exact, and they route their nets
abbrev pub AreExact : RoutingProblem → Routes → Type 0
AreExact p r = AreRecorded p (lists_kept r) r.usage.counts r.usage.overused r.unrouted

-- what is counted of the recorded trees is exact, and the problem has this net
abbrev pub HasNet : RoutingProblem → Routes → (net : ℕ) → Type 0
HasNet p r i = (i < length p.nets) × AreExact p r

abbrev pub table_of : turns.Inside → TurnTable
table_of t = record { drawn = t.drawn; holders = t.holders.items; turns = t.made.items; earlier = t.earlier.items }

-- each net drawn is held or had its turn; and each list has room for what may still come
pub record AreTurns (t : turns.Inside) : Type 0 where
  pub order : AreInOrder (table_of t)
  pub all : count_by is_some t.holders.items + length t.made.items ≡ t.drawn
  pub few_nets : length t.holders.items ≤ 65535
  pub room : length t.holders.items ≤ vec_capacity t.made
  pub few : length t.earlier.items ≤ most_iterations
  pub more : most_iterations ≤ vec_capacity t.earlier

abbrev pub content_of : book.Inside → Content
content_of b =
    record {
      problem = b.problem;
      acc = b.history.acc;
      lists = lists_kept b.routes;
      occupancies = b.routes.usage.counts;
      rows = b.history.rows;
      histories = b.history.histories;
      drawn = b.turns.drawn;
      holders = b.turns.holders;
      turns = b.turns.turns;
      earlier = b.turns.earlier;
    }

-- The problem is one, the book is sound, its counters are exact, and its marks fit.
pub record IsBookInside (b : book.Inside) : Type 0 where
  pub problem : IsProblem b.problem
  pub sound : IsSound (content_of b)
  pub over : b.routes.usage.overused ≡ overused_by b.problem.device b.routes.usage.counts
  pub without : b.routes.unrouted ≡ unrouted_in (lists_kept b.routes)
  pub marks : b.marks ≡ node_count_of b.problem.device
