use Rattle.std.proofs.Common.{◌≡◌, map}
use Rattle.channel_tables.specs.Fabric.{numbers_below}
use Rattle.channel_tables.specs.Wires.{reach_of}
use Rattle.channel_tables.proofs.layout.Layout.reaches.Given as goal

abbrev pub invariant-loop-track : goal.invariant-loop-track
invariant-loop-track l = l.reaches.items ≡ map (reach_of l.self) (numbers_below l.track)
