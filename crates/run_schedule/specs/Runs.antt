-- The whole schedule of a run (ours).
use Rattle.std.specs.Prelude.{ℕ, List}
use Rattle.run_schedule.specs.Heads.{IsHead}
use Rattle.run_schedule.specs.Schedules.{AreTrials, TrialTurns}
use Rattle.run_schedule.specs.ScheduleTexts.{schedule_text}

-- the lines of its head, the numbers of workers and nets on them, and the trials
pub record RunTurns : Type 0 where
  pub head : List ℕ
  pub workers : ℕ
  pub nets : ℕ
  pub trials : List TrialTurns

pub record IsSchedule (s : RunTurns) : Type 0 where
  pub head : IsHead s.workers s.nets s.head
  pub trials : AreTrials s.nets s.workers s.trials

abbrev pub text_of_run : RunTurns → List ℕ
text_of_run s = schedule_text s.head s.trials
