-- How a schedule is kept.
use Rattle.run_schedule.specs.Runs.{RunTurns}
use Rattle.run_schedule.specs.declared.schedule.RunSchedule.TheInside as run

abbrev pub run_inside : run.Inside → RunTurns
run_inside s = record { head = s.head.now; workers = s.workers; nets = s.nets; trials = s.trials }
