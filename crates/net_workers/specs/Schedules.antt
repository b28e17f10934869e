-- The turns of an iteration as a schedule has them.
use Rattle.std.specs.Prelude.{◌≡◌, ℕ, ◌<◌, ◌==◌, List, [], length, map, get_or}
use Rattle.std.specs.List.{filter}
use Rattle.gates.specs.declared.schedule.ScheduledTurn.{ScheduledTurn}
use Rattle.congestion_book.specs.Contents.{Content}
use Rattle.net_workers.specs.declared.report.ReportEntry.{ReportEntry}

-- the turn that a worker's entry reports
abbrev pub scheduled_turn : (worker : ℕ) → ReportEntry → ScheduledTurn
scheduled_turn worker e = record { worker = worker; net = e.net; seen = e.seen }

-- these are the turns of the iteration that left the book: in the book's order, each with the
-- number of turns seen that its worker reports
pub record IsScheduleOf (c : Content) (reports : List (List ReportEntry)) (turns : List ScheduledTurn) : Type 0 where
  pub workers : map (λ t. t.worker) turns ≡ map (λ t. t.worker) c.turns
  pub nets : map (λ t. t.net) turns ≡ map (λ t. t.net) c.turns
  pub reported : (w : ℕ) → w < length reports → filter (λ t. t.worker == w) turns ≡ map (scheduled_turn w) (get_or reports w [])

-- which turns an iteration, counted from 1, may have
abbrev pub TurnRule : Type 1
TurnRule = ℕ → List ScheduledTurn → Type 0

-- the turns of this iteration are such as the rule allows
abbrev pub AreAllowed : TurnRule → (iteration : ℕ) → Content → List (List ReportEntry) → Type 0
AreAllowed allows k c reports = (turns : List ScheduledTurn) × IsScheduleOf c reports turns × allows k turns
