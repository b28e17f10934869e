use Rattle.std.proofs.Common.{◌≡◌, ℕ, ◌+◌, ◌<◌, false}
use Rattle.channel_tables.specs.Wires.{begins}
use Rattle.channel_tables.proofs.channel.Staggers.steps_from.Given as goal

abbrev pub invariant-loop-steps : goal.invariant-loop-steps
invariant-loop-steps l = (k : ℕ) → k < l.steps → begins l.self.layout.now l.self.places l.track (l.place + 1 + k) ≡ false
