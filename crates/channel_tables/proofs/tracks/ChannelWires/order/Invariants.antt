use Rattle.std.proofs.Common.{◌≡◌}
use Rattle.std.specs.List.{flat_map}
use Rattle.channel_tables.specs.Fabric.{numbers_below}
use Rattle.channel_tables.specs.Channels.{tracks_through}
use Rattle.channel_tables.proofs.tracks.ChannelWires.order.Given as goal

abbrev pub invariant-loop-place : goal.invariant-loop-place
invariant-loop-place l = l.order.items ≡ flat_map (tracks_through l.self.layout.now l.self.places) (numbers_below l.place)
