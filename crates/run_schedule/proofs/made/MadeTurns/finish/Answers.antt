use Rattle.std.proofs.Common.{◌≡◌, refl, sym, subst}
use Rattle.run_schedule.specs.Schedules.{IsIteration}
use Rattle.run_schedule.specs.kept.Made.{TurnsMade}
use Rattle.run_schedule.proofs.Making.{all_turned, not_all_turned}
use Rattle.run_schedule.proofs.made.MadeTurns.finish.Goals as goal

pub returns-then-are_all : goal.returns-then-are_all
returns-then-are_all c =
    let all = rw c.deref.ensures.value at c.if-are_all.ensures in
    subst (λ (m : TurnsMade). (c.self.inside.turns ≡ m.turns) × IsIteration m.nets m.workers c.self.inside.turns) c.self.view_is (refl, all_turned c.self.invariant (sym all))

pub returns : goal.returns
returns c =
    let some = rw c.deref.ensures.value at c.if-are_all.ensures in
    subst (λ (m : TurnsMade). IsIteration m.nets m.workers m.turns → ⊥) c.self.view_is (not_all_turned c.self.invariant (sym some))
