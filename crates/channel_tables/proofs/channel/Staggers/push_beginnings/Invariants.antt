use Rattle.std.proofs.Common.{◌≡◌, ◌++◌, map}
use Rattle.std.specs.List.{filter}
use Rattle.channel_tables.specs.Fabric.{numbers_below}
use Rattle.channel_tables.specs.Wires.{begins}
use Rattle.channel_tables.specs.Channels.{beginning_of}
use Rattle.channel_tables.proofs.channel.Staggers.push_beginnings.Given as goal

abbrev pub invariant-loop-track : goal.invariant-loop-track
invariant-loop-track l =
    l.beginnings.items ≡ l.initial.beginnings.items ++ map (beginning_of l.place) (filter (λ t. begins l.self.layout.now l.self.places t l.place) (numbers_below l.track))
