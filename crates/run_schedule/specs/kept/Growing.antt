-- How the trials of a run grow.
use Rattle.std.specs.Prelude.{List, [], ◌∷◌, ◌++◌}
use Rattle.gates.specs.declared.schedule.ScheduledTurn.{ScheduledTurn}
use Rattle.run_schedule.specs.Schedules.{TrialTurns}

-- these trials, the last one with one more iteration
abbrev pub with_iteration : List TrialTurns → (turns : List ScheduledTurn) → List TrialTurns
with_iteration [] turns = []
with_iteration (t ∷ []) turns = record t { iterations = t.iterations ++ turns ∷ [] } ∷ []
with_iteration (t ∷ u ∷ later) turns = t ∷ with_iteration (u ∷ later) turns
