-- How the turns of a run are kept.
use Rattle.std.specs.Prelude.{List}
use Rattle.gates.specs.declared.schedule.ScheduledTurn.{ScheduledTurn}
use Rattle.run_schedule.specs.Schedules.{TrialTurns}
use Rattle.run_schedule.specs.declared.trial.Turns.TheInside as turns
use Rattle.run_schedule.specs.declared.trial.Trial.TheInside as trial
use Rattle.run_schedule.specs.declared.trial.Trials.TheInside as trials

abbrev pub turns_inside : turns.Inside → List ScheduledTurn
turns_inside t = t.turns.items

abbrev pub trial_inside : trial.Inside → TrialTurns
trial_inside t = record { width = t.width; iterations = t.iterations.items }

abbrev pub trials_inside : trials.Inside → List TrialTurns
trials_inside t = t.trials.items
