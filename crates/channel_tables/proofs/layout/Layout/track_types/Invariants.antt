use Rattle.std.proofs.Common.{◌≡◌, map}
use Rattle.channel_tables.specs.Fabric.{numbers_below}
use Rattle.channel_tables.specs.Wires.{type_of}
use Rattle.channel_tables.proofs.layout.Layout.track_types.Given as goal

abbrev pub invariant-loop-track : goal.invariant-loop-track
invariant-loop-track l = l.types.items ≡ map (type_of l.self.architecture.segments l.self.width) (numbers_below l.track)
