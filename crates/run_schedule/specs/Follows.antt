-- Turns that are those of a schedule (ours).
use Rattle.std.specs.Prelude.{◌≡◌, ℕ, zero, suc, List, Option, None, Some, slice_get}
use Rattle.std.specs.List.{Any}
use Rattle.gates.specs.declared.schedule.ScheduledTurn.{ScheduledTurn}
use Rattle.run_schedule.specs.Runs.{RunTurns}
use Rattle.run_schedule.specs.Schedules.{TrialTurns}

-- the turns of an iteration, counted from 1, of a trial
abbrev pub turns_at : TrialTurns → (iteration : ℕ) → Option (List ScheduledTurn)
turns_at t zero = None
turns_at t (suc n) = slice_get t.iterations n

-- a trial of the schedule has exactly these turns in this iteration
abbrev pub HasTurns : RunTurns → (iteration : ℕ) → List ScheduledTurn → Type 0
HasTurns s iteration turns = Any (λ t. turns_at t iteration ≡ Some turns) s.trials
