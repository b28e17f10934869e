use Rattle.std.proofs.Common.{◌≡◌, ℕ, ◌<◌, false}
use Rattle.std.specs.Prelude.{◌==◌}
use Rattle.channel_tables.specs.Wires.{type_of}
use Rattle.channel_tables.proofs.layout.Layout.rank_of.Given as goal

abbrev pub invariant-loop-first : goal.invariant-loop-first
invariant-loop-first l =
    (k : ℕ) → k < l.first → (type_of l.self.architecture.segments l.self.width k == type_of l.self.architecture.segments l.self.width l.track) ≡ false
