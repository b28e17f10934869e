-- What is kept of the histories of nodes.
use Rattle.std.specs.Prelude.{◌≡◌, ℕ, ◌+◌, ◌*◌, ◌<◌, List, length, get_or}
use Rattle.congestion_book.specs.Histories.{Amount, amount_in, history_of}

-- each node has its history by these rows
abbrev pub AreHistories : (acc : ℕ) → (rows : List (List Amount)) → (histories : List ℕ) → Type 0
AreHistories acc rows histories = (a : ℕ) → a < length histories → get_or histories a 0 ≡ history_of acc rows a

-- each history has grown by acc times the node's amount
pub record GrowsByRow (acc : ℕ) (row : List Amount) (old new : List ℕ) : Type 0 where
  pub size : length new ≡ length old
  pub each : (a : ℕ) → get_or new a 0 ≡ get_or old a 0 + acc * amount_in row a

-- the histories of the nodes, and the rows that they come from
pub record HistoryTable : Type 0 where
  pub acc : ℕ
  pub rows : List (List Amount)
  pub histories : List ℕ
