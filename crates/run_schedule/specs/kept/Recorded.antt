-- What is recorded of a run.
use Rattle.std.specs.Prelude.{◌≡◌, ℕ, false, List, [], ◌∷◌, ◌++◌}
use Rattle.gates.specs.declared.schedule.ScheduledTurn.{ScheduledTurn}
use Rattle.run_schedule.specs.declared.recorder.Recording.{Recording}
use Rattle.run_schedule.specs.kept.Growing.{with_iteration}

-- a trial of a problem with this many nets was begun
pub record Begins (old new : Recording) (width nets : ℕ) : Type 0 where
  pub whole : old.is_lost ≡ false
  pub trials : new.trials ≡ old.trials ++ record { width = width; iterations = [] } ∷ []
  pub nets-are : new.nets ≡ nets

-- the last trial has one more iteration
pub record Notes (old new : Recording) (turns : List ScheduledTurn) : Type 0 where
  pub whole : old.is_lost ≡ false
  pub trials : new.trials ≡ with_iteration old.trials turns
  pub nets-are : new.nets ≡ old.nets
