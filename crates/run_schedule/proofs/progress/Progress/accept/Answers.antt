use Rattle.std.proofs.Common.{subst}
use Rattle.run_schedule.specs.Follows.{HasTurns}
use Rattle.run_schedule.proofs.Following.{same_turns}
use Rattle.run_schedule.proofs.progress.Progress.accept.Goals as goal

pub returns : goal.returns
returns c = λ accepted.
    let same = same_turns c.in-Some.scheduled.now c.args.turns.now c.ne.result c.ne.ensures c.if-ne.false in
    subst (HasTurns c.args.schedule.now c.args.iteration) same c.in-Some.ensures
