use Rattle.std.proofs.Common.{◌≡◌, ◌++◌}
use Rattle.std.specs.Prelude.{◌==◌}
use Rattle.std.specs.List.{filter}
use Rattle.channel_tables.specs.Fabric.{numbers_below}
use Rattle.channel_tables.specs.Channels.{first_of}
use Rattle.channel_tables.proofs.tracks.ChannelWires.push_tracks_from.Given as goal

abbrev pub invariant-loop-track : goal.invariant-loop-track
invariant-loop-track l =
    l.order.items ≡ l.initial.order.items ++ filter (λ t. first_of l.self.layout.now l.self.places t l.place == l.first) (numbers_below l.track)
