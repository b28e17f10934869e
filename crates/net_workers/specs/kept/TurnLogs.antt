-- The history of an iteration: its turns, and what each was found by.
use Rattle.std.specs.Prelude.{◌≡◌, ℕ, ◌<◌, ◌≤◌, ◌==◌, List, [], ◌∷◌, length, take, set, map, get_or, count_by, Option}
use Rattle.std.specs.List.{filter}
use Rattle.route_tree.specs.declared.tree.Row.{Row}
use Rattle.route_tree.specs.TreeLists.{list_of_tree}
use Rattle.route_tree.specs.Usage.{Lists}
use Rattle.wavefront.specs.Growth.{space_of}
use Rattle.congestion_book.specs.declared.turn.Turn.{Turn}
use Rattle.congestion_book.specs.Contents.{Content, net_count, view_of}
use Rattle.net_workers.specs.declared.made_turn.MadeTurn.{MadeTurn}
use Rattle.net_workers.specs.declared.report.ReportEntry.{ReportEntry}
use Rattle.gates.specs.declared.schedule.ScheduledTurn.{ScheduledTurn}
use Rattle.net_workers.specs.Agreement.{reported_turn}
use Rattle.net_workers.specs.Schedules.{scheduled_turn}
use Rattle.net_workers.specs.Searches.{IsFoundIn}
use Rattle.net_workers.specs.kept.Routes.{RoutesNet}
use Rattle.net_workers.specs.WorkerParts.{no_book}

-- an iteration: the book that opens it, the present-congestion factor, the margin of the boxes, and
-- how many workers there are
pub record Plan : Type 0 where
  pub opening : Content
  pub present : ℕ
  pub bb : ℕ
  pub workers : ℕ

abbrev pub plan_of : Content → (present bb workers : ℕ) → Plan
plan_of c present bb workers = record { opening = c; present = present; bb = bb; workers = workers }

-- that of a brand to which no call gave one
abbrev pub no_plan : Plan
no_plan = plan_of no_book 0 0 0

-- the turn as the book has it
abbrev pub turn_in_book : MadeTurn → Turn
turn_in_book t = reported_turn t.worker t.entry

-- the turn as a schedule has it
abbrev pub turn_in_schedule : MadeTurn → ScheduledTurn
turn_in_schedule t = scheduled_turn t.worker t.entry

-- the lists after these turns, each of which gives its net another one, or none
abbrev pub lists_after : Lists → List MadeTurn → Lists
lists_after lists [] = lists
lists_after lists (t ∷ ts) = lists_after (set lists t.entry.net (list_of_tree t.entry.tree)) ts

-- the book that opens the iteration, after these turns
abbrev pub book_after : Plan → List MadeTurn → Content
book_after p log = record p.opening { lists = lists_after p.opening.lists log }

-- how many of the turns are at the net
abbrev pub turns_for : ℕ → List MadeTurn → ℕ
turns_for net log = count_by (λ t. t.entry.net == net) log

-- what the worker reports of these turns
abbrev pub entries_of : (worker : ℕ) → List MadeTurn → List ReportEntry
entries_of worker log = map (λ t. t.entry) (filter (λ t. t.worker == worker) log)

-- what a search finds for a net by what it sees after these turns
unfoldable pub IsFoundAfter : Plan → List MadeTurn → (net : ℕ) → Option (List Row) → Type 0
IsFoundAfter p log net tree = IsFoundIn (space_of p.opening.problem net (view_of (book_after p log) net) p.present p.bb) tree

-- After the turns of the log this one may be made: a worker of the iteration made it, at a net that
-- had none, and its tree is what a search finds after the first turns, as many as its worker had
-- seen.
pub record Follows (p : Plan) (log : List MadeTurn) (t : MadeTurn) : Type 0 where
  pub worker : t.worker < p.workers
  pub net : t.entry.net < net_count p.opening
  pub once : turns_for t.entry.net log ≡ 0
  pub seen : t.entry.seen ≤ length log
  pub found : IsFoundAfter p (take t.entry.seen log) t.entry.net t.entry.tree
  pub routes : RoutesNet p.opening.problem t.entry.net t.entry.tree

-- each turn might be made after those before it
pub record IsLegal (p : Plan) (log : List MadeTurn) : Type 0 where
  pub each : (k : ℕ) (d : MadeTurn) → k < length log → Follows p (take k log) (get_or log k d)
