use Rattle.std.proofs.Common.{◌≡◌, ◌*◌, ◌≤◌, map}
use Rattle.channel_tables.specs.Fabric.{numbers_below}
use Rattle.channel_tables.specs.Channels.{wires_before}
use Rattle.channel_tables.proofs.channel.Staggers.before.Given as goal

abbrev pub invariant-loop-place : goal.invariant-loop-place
invariant-loop-place l =
    (l.before.items ≡ map (wires_before l.self.layout.now l.self.places) (numbers_below l.place)) × (l.count ≡ wires_before l.self.layout.now l.self.places l.place) × (l.count ≤ 256 * l.place)
