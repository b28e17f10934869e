use Rattle.run_schedule.proofs.Trying.{after_width, no_width}
use Rattle.run_schedule.proofs.reading.read_trial.Goals as goal

pub returns-in_default : goal.returns-in_default
returns-in_default c = no_width c.in_default.ensures

pub returns : goal.returns
returns c = after_width c.in-Some.ensures c.read_iterations.ensures
