use Rattle.run_schedule.specs.kept.Made.{MayFollow, TurnsMade}
use Rattle.std.proofs.Common.{subst, sym}
use Rattle.run_schedule.proofs.Making.{kept_more}
use Rattle.run_schedule.proofs.made.MadeTurns.push.Goals as goal

pub invariant_of-self : goal.invariant_of-self
invariant_of-self c = rw c.in_err-push.ensures.err c.self.invariant

pub invariant_of-self-2 : goal.invariant_of-self-2
invariant_of-self-2 c = rw c.in_ok-push.ensures.ok (kept_more c.self.invariant c.args.turn (subst (λ (m : TurnsMade). MayFollow m c.args.turn) (sym c.self.view_is) c.requires))
