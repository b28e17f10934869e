use Rattle.std.proofs.Common.{◌≡◌, ◌≢◌, ◌<◌, ℕ, Bool, true, false, sym, subst, ◌∙◌}
use Rattle.std.specs.List.{All}
use Rattle.run_schedule.specs.kept.Made.{TurnsMade}
use Rattle.run_schedule.proofs.Making.{net_judged}
use Rattle.run_schedule.proofs.made.MadeTurns.net_fault.Goals as goal

abbrev Judged : (net : ℕ) → Bool → TurnsMade → Type 0
Judged net b m = (b ≡ false → (net < m.nets) × All (λ s. s.net ≢ net) m.turns) × ((net < m.nets) × All (λ s. s.net ≢ net) m.turns → b ≡ false)

pub returns-in-Some-true : goal.returns-in-Some-true
returns-in-Some-true c =
    let found = rw c.deref.ensures.value at c.in-Some-true.ensures.lookup.3 in
    subst (Judged c.args.net true) c.self.view_is (net_judged c.self.invariant c.args.net found.0 true (sym (found.1 false) ∙ c.in-Some-true.field-0-test))

pub returns-in-Some-false : goal.returns-in-Some-false
returns-in-Some-false c =
    let found = rw c.deref.ensures.value at c.in-Some-false.ensures.lookup.3 in
    subst (Judged c.args.net false) c.self.view_is (net_judged c.self.invariant c.args.net found.0 false (sym (found.1 false) ∙ c.in-Some-false.field-0-test))
