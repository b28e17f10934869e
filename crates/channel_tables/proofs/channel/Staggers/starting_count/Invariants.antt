use Rattle.std.proofs.Common.{◌≡◌, ◌≤◌, length}
use Rattle.std.specs.List.{filter}
use Rattle.channel_tables.specs.Fabric.{numbers_below}
use Rattle.channel_tables.specs.Wires.{begins}
use Rattle.channel_tables.proofs.channel.Staggers.starting_count.Given as goal

abbrev pub invariant-loop-track : goal.invariant-loop-track
invariant-loop-track l = (l.count ≡ length (filter (λ t. begins l.self.layout.now l.self.places t l.place) (numbers_below l.track))) × (l.count ≤ l.track)
