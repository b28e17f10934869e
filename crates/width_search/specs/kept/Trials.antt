-- What is reported to the gate about a trial.
use Rattle.iteration.specs.declared.outcome.Outcome.{Outcome}
use Rattle.iteration.specs.declared.outcome.Outcome.TheVariants.{Success, NotRouted}
use Rattle.gates.specs.declared.trial.TrialEnd.{TrialEnd}
use Rattle.gates.specs.declared.trial.TrialEnd.TheVariants as ended

abbrev pub end_of : Outcome → TrialEnd
end_of (Success lists iterations) = ended.Routed iterations
end_of (NotRouted unrouted overused iterations) = ended.NotRouted unrouted overused iterations
