use Rattle.std.proofs.Common.{◌≡◌, ℕ, ◌<◌, false}
use Rattle.channel_tables.specs.Wires.{reaches}
use Rattle.channel_tables.proofs.wires.type_of.Given as goal

abbrev pub invariant-loop-kind : goal.invariant-loop-kind
invariant-loop-kind l = (k : ℕ) → k < l.kind → reaches l.segments l.width l.track k ≡ false
