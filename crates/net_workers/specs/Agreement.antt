-- When the reports of an iteration agree with the book that it leaves.
use Rattle.std.specs.Prelude.{◌≡◌, ℕ, ◌<◌, ◌==◌, List, [], length, map, All, None, is_none, get_or}
use Rattle.std.specs.List.{filter}
use Rattle.route_tree.specs.TreeLists.{list_of_tree}
use Rattle.congestion_book.specs.declared.turn.Turn.{Turn}
use Rattle.congestion_book.specs.Turns.{NameEachOnce, holder_in, turn_of}
use Rattle.route_tree.specs.Usage.{list_in}
use Rattle.congestion_book.specs.Contents.{Content, net_count}
use Rattle.net_workers.specs.declared.report.ReportEntry.{ReportEntry}
use Rattle.net_workers.specs.WorkerParts.{IsOfIteration}
use Rattle.net_workers.specs.Searches.{AreFound}

-- the turn that a worker's entry reports
abbrev pub reported_turn : (worker : ℕ) → ReportEntry → Turn
reported_turn worker e = turn_of worker e.net (is_none e.tree)

-- the book records the pairs of the entry's tree, or none if it has none
abbrev pub IsRecorded : Content → ReportEntry → Type 0
IsRecorded c e = list_in c.lists e.net ≡ list_of_tree e.tree

-- the worker's turns are these entries, in order, and the book records their trees
pub record IsReportOf (c : Content) (worker : ℕ) (entries : List ReportEntry) : Type 0 where
  pub turns : filter (λ t. t.worker == worker) c.turns ≡ map (reported_turn worker) entries
  pub recorded : All (IsRecorded c) entries

-- The new book is the old one after an iteration of this many workers, with this present-congestion
-- factor and this margin of the boxes, and these are their reports.
pub record Agrees (old new : Content) (present bb workers : ℕ) (reports : List (List ReportEntry)) : Type 0 where
  -- all but the open iteration is as it was
  pub within : IsOfIteration old new
  -- each net had one turn, and none is held
  pub once : NameEachOnce (net_count new) new.turns
  pub free : (i : ℕ) → holder_in new.holders i ≡ None
  -- there is one report for each worker, which has its turns
  pub count : length reports ≡ workers
  pub known : All (λ t. t.worker < workers) new.turns
  pub reported : (w : ℕ) → w < workers → IsReportOf new w (get_or reports w [])
  -- each tree is what a search found by the turns that its worker had seen, and a net without one
  -- is stuck
  pub found : All (AreFound old new present bb) reports
