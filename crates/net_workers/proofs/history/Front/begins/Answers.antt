use Rattle.std.proofs.Common.{◌≤◌, length, List, arith, subst, ap}
use Rattle.std.proofs.lemmas.Bool.Decides.{nat_tests}
use mathlib.Core.List.{IsPrefix}
use Rattle.net_workers.specs.declared.made_turn.MadeTurn.{MadeTurn}
use Rattle.net_workers.proofs.Fronts.{prefix_shorter}
use Rattle.net_workers.proofs.history.Front.begins.Goals as goal

pub returns-clause-begun : goal.returns-clause-begun
returns-clause-begun g c = λ yes.
    let both = c.learn.new.self.log in
    let this : IsPrefix c.self.inside.seen.log both = subst (λ (l : List MadeTurn). IsPrefix l both) (ap (λ s. s.log) c.again-both.ensures) c.learn.ensures.2 in
    let most : c.self.inside.turns ≤ c.other.inside.turns = grind (arith, nat_tests) in
    let less : length c.self.inside.seen.log ≤ length c.other.inside.seen.log = omega (arith, most, c.self.invariant.0, c.other.invariant.0) in
    rw (← c.self.view_is, ← c.other.view_is) (prefix_shorter c.self.inside.seen.log c.other.inside.seen.log both this c.learn.ensures.3 less)
