use Rattle.std.proofs.Common.{◌≡◌, ◌++◌}
use Rattle.std.specs.List.{range_with_len, flat_map}
use Rattle.channel_tables.specs.Channels.{tracks_from}
use Rattle.channel_tables.proofs.tracks.ChannelWires.push_tracks_through.Given as goal

abbrev pub invariant-loop-before : goal.invariant-loop-before
invariant-loop-before l = l.order.items ≡ l.initial.order.items ++ flat_map (tracks_from l.self.layout.now l.self.places l.place) (range_with_len 1 l.before)
