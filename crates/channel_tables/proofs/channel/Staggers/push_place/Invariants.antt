use Rattle.std.proofs.Common.{◌≡◌, ◌++◌, map}
use Rattle.channel_tables.specs.Fabric.{numbers_below}
use Rattle.channel_tables.specs.Channels.{wire_number, wire_at}
use Rattle.channel_tables.proofs.channel.Staggers.push_place.Given as goal

abbrev pub invariant-loop-track : goal.invariant-loop-track
invariant-loop-track l =
    (l.wires.items ≡ l.initial.wires.items ++ map (wire_at l.self.layout.now l.self.places l.place) (numbers_below l.track)) × (l.number ≡ wire_number l.self.layout.now l.self.places l.place l.track)
