use Rattle.std.proofs.Common.{◌≡◌, map}
use Rattle.channel_tables.specs.Fabric.{numbers_below}
use Rattle.channel_tables.specs.kept.Tables.{stagger_of}
use Rattle.channel_tables.proofs.layout.Layout.staggers.Given as goal

abbrev pub invariant-loop-track : goal.invariant-loop-track
invariant-loop-track l = l.list.items ≡ map (stagger_of l.self l.places) (numbers_below l.track)
