use Rattle.channel_tables.proofs.TappingTables.{holds_track}
use Rattle.channel_tables.proofs.layout.Layout.tapping_on.Goals as goal

pub of_track-requires : goal.of_track-requires
of_track-requires c = holds_track c.requires.sides.top c.args.track c.requires.track

pub of_track-requires-in-Bottom : goal.of_track-requires-in-Bottom
of_track-requires-in-Bottom c = holds_track c.requires.sides.bottom c.args.track c.requires.track

pub of_track-requires-in-Right : goal.of_track-requires-in-Right
of_track-requires-in-Right c = holds_track c.requires.sides.right c.args.track c.requires.track

pub of_track-requires-in-Left : goal.of_track-requires-in-Left
of_track-requires-in-Left c = holds_track c.requires.sides.left c.args.track c.requires.track

pub of_track-requires-in-Pad : goal.of_track-requires-in-Pad
of_track-requires-in-Pad c = holds_track c.requires.sides.pads c.args.track c.requires.track
