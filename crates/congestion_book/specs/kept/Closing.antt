-- What a close needs.
use Rattle.std.specs.Prelude.{◌≡◌, ℕ, ◌<◌, ◌≤◌, [], ◌∷◌, ◌++◌, length, Option, Some, None, Err, vec_capacity}
use Rattle.std.specs.Arc.{arc_value}
use Rattle.node_cost.specs.Options.{most_iterations}
use Rattle.congestion_book.specs.declared.book.NextIteration.{NextIteration}
use Rattle.congestion_book.specs.declared.faults.CloseFault.{CloseFault}
use Rattle.congestion_book.specs.Turns.{IsFirstWaiting}
use Rattle.congestion_book.specs.Histories.{amount_in, row_of}
use Rattle.congestion_book.specs.kept.HistoryTables.{AreHistories}
use Rattle.congestion_book.specs.Contents.{Content, net_count, node_total}
use Rattle.congestion_book.specs.Steps.{Closes}

-- a close can go on if each net had its turn and there is room for a row; else the fault is its
-- answer
abbrev pub TellsClosing : Content → Option CloseFault → Type 0
TellsClosing c None = IsFirstWaiting c.turns (net_count c) None × (length c.rows < most_iterations)
TellsClosing c (Some fault) = Closes c (Err fault) c

-- the row of the open iteration, the histories with it, and room for a turn at each net
pub record IsNext (c : Content) (n : NextIteration) : Type 0 where
  pub row : n.row ≡ row_of c.problem c.lists
  pub bounded : (a : ℕ) → amount_in n.row a ≤ 65535
  pub size : length (arc_value n.histories) ≡ node_total c
  pub exact : AreHistories c.acc (c.rows ++ n.row ∷ []) (arc_value n.histories)
  pub none : n.made.items ≡ []
  pub room : net_count c ≤ vec_capacity n.made
