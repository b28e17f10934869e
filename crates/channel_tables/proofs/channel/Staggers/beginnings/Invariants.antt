use Rattle.std.proofs.Common.{◌≡◌, map}
use Rattle.std.specs.List.{flat_map}
use Rattle.channel_tables.specs.Fabric.{numbers_below}
use Rattle.channel_tables.specs.Channels.{starting_at, beginning_of}
use Rattle.channel_tables.proofs.channel.Staggers.beginnings.Given as goal

abbrev pub invariant-loop-place : goal.invariant-loop-place
invariant-loop-place l = l.beginnings.items ≡ flat_map (λ p. map (beginning_of p) (starting_at l.self.layout.now l.self.places p)) (numbers_below l.place)
