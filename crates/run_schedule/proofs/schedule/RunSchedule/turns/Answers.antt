use Rattle.std.proofs.Common.{subst}
use Rattle.std.specs.Prelude.{IfSome}
use Rattle.run_schedule.specs.Follows.{HasTurns}
use Rattle.run_schedule.specs.Runs.{RunTurns}
use Rattle.run_schedule.proofs.Following.{turns_found}
use Rattle.run_schedule.proofs.schedule.RunSchedule.turns.Goals as goal

pub returns : goal.returns
returns c =
    let found = rw c.as_slice.ensures at c.in_ok-trial.ensures.lookup in
    subst (λ (s : RunTurns). IfSome c.turns.result (λ turns. HasTurns s c.args.iteration turns.now)) c.self.view_is
    (turns_found c.self.inside.trials c.args.trial c.args.iteration c.in_ok-trial.trial.now found.3.0 found.1 c.turns.result c.turns.ensures)
