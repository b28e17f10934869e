use Rattle.std.proofs.Common.{◌≡◌, ◌+◌}
use Rattle.std.specs.List.{flat_map}
use Rattle.channel_tables.specs.Fabric.{numbers_below}
use Rattle.channel_tables.specs.kept.Tables.{wires_at}
use Rattle.channel_tables.proofs.channel.Staggers.wires.Given as goal

abbrev pub invariant-loop-earlier : goal.invariant-loop-earlier
invariant-loop-earlier l = l.wires.items ≡ flat_map (λ m. wires_at l.self.layout.now l.self.places (m + 1)) (numbers_below l.earlier)
