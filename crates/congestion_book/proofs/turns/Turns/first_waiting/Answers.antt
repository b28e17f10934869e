use Rattle.std.proofs.Common.{◌≡◌, ◌<◌, length, Some, None, ℕ, Option, true, is_some, subst, sym, ◌∙◌, arith}
use Rattle.congestion_book.specs.Turns.{TurnTable, holder_in, IsFirstWaiting}
use Rattle.congestion_book.specs.kept.Fields.{table_of}
use Rattle.congestion_book.proofs.Turning.{waits_held, waits_undrawn, none_waits}
use Rattle.congestion_book.proofs.turns.Turns.first_waiting.Goals as goal

abbrev Free : ℕ → TurnTable → Type 0
Free n t = (k : ℕ) → k < n → holder_in t.holders k ≡ None

abbrev IsHeld : ℕ → TurnTable → Type 0
IsHeld n t = is_some (holder_in t.holders n) ≡ true

abbrev First : Option ℕ → TurnTable → Type 0
First answer t = IsFirstWaiting t.turns (length t.holders) answer

pub returns-then-is_held : goal.returns-then-is_held
returns-then-is_held c =
    let t = table_of c.self.inside in
    subst (First (Some c.loop-net.net)) c.self.view_is
    (waits_held t c.self.invariant.order c.loop-net.net c.loop-net-test.true (subst (Free c.loop-net.net) (sym c.self.view_is) c.loop-net.invariant) (subst (IsHeld c.loop-net.net) (sym c.self.view_is) (sym c.is_held.ensures ∙ c.if-is_held.true)))

pub returns-then-self-len : goal.returns-then-self-len
returns-then-self-len c =
    let t = table_of c.self.inside in
    subst (First (Some t.drawn)) c.self.view_is
    (waits_undrawn t c.self.invariant.order (omega (arith, c.if-self-len.true, c.len.ensures)) (λ k low. subst (Free c.loop-net.net) (sym c.self.view_is) c.loop-net.invariant k (omega (arith, low, c.loop-net-test.false))))

pub returns : goal.returns
returns c =
    let t = table_of c.self.inside in
    subst (First None) c.self.view_is
    (none_waits t c.self.invariant.order (omega (arith, c.if-self-len.false, c.len.ensures)) (λ k low. subst (Free c.loop-net.net) (sym c.self.view_is) c.loop-net.invariant k (omega (arith, low, c.loop-net-test.false))))
