-- No more wires run through a place of a channel than it has tracks.
use Rattle.std.proofs.Common.{ℕ, ◌≤◌, arith}
use Rattle.channel_tables.specs.declared.node.Mode.{Mode}
use Rattle.channel_tables.specs.declared.node.Mode.TheVariants.{Detailed, Global}
use Rattle.channel_tables.specs.Wires.{tracks_in}

pub tracks_within : (mode : Mode) (width : ℕ) → 1 ≤ width → tracks_in mode width ≤ width
tracks_within Detailed width some = omega arith
tracks_within Global width some = some
