-- What the tables of a device hold: the wires of its channels, counted and found by track and
-- place.
use Rattle.std.specs.Prelude.{◌≡◌, ℕ, ◌+◌, List, map}
use Rattle.std.specs.List.{flat_map}
use Rattle.channel_tables.specs.declared.channel.Stagger.{Stagger}
use Rattle.channel_tables.specs.declared.channel.Wire.{Wire}
use Rattle.channel_tables.specs.declared.channel.Channel.{Channel}
use Rattle.channel_tables.specs.Fabric.{Fabric, numbers_below}
use Rattle.channel_tables.specs.Wires.{tracks_in, length_of, reach_of, rank_of}
use Rattle.channel_tables.specs.declared.tap_counts.TapCounts.{TapCounts}
use Rattle.channel_tables.specs.declared.sides.BlockSides.{BlockSides}
use Rattle.channel_tables.specs.kept.TappingTables.{IsSides}
use Rattle.channel_tables.specs.Pins.{IsTapCounts}
use Rattle.channel_tables.specs.Channels.{beginnings_of, tracks_through, wire_at, wires_before}

-- a track's rank and the length of its wires, in a channel of n places
abbrev pub stagger_of : Fabric → (n track : ℕ) → Stagger
stagger_of f n track = record { rank = rank_of f.architecture.segments f.width track; length = length_of f n track }

-- the wires through a place, by track
abbrev pub wires_at : Fabric → (n place : ℕ) → List Wire
wires_at f n place = map (wire_at f n place) (numbers_below (tracks_in f.mode f.width))

-- for each track how many places its wires pass at most
abbrev pub AreReaches : Fabric → List ℕ → Type 0
AreReaches f reaches = reaches ≡ map (reach_of f) (numbers_below (tracks_in f.mode f.width))

-- the tables of a channel of so many places
pub record IsChannel (f : Fabric) (c : Channel) : Type 0 where
  pub before : c.before.items ≡ map (wires_before f c.places) (numbers_below (c.places + 2))
  pub beginnings : c.beginnings.items ≡ beginnings_of f c.places
  pub wires : c.wires.items ≡ flat_map (λ m. wires_at f c.places (m + 1)) (numbers_below c.places)
  pub order : c.order.items ≡ flat_map (tracks_through f c.places) (numbers_below (c.places + 1))

-- the tables of a device's channels and pins
pub record IsTabled (f : Fabric) (r c : Channel) (p : BlockSides) (t : TapCounts) (l : List ℕ) : Type 0 where
  pub rows : IsChannel f r
  pub width : r.places ≡ f.nx
  pub columns : IsChannel f c
  pub height : c.places ≡ f.ny
  pub sides : IsSides f p
  pub counts : IsTapCounts f t
  pub reaches : AreReaches f l
