-- What the tables of tapping pins hold.
use Rattle.std.specs.Prelude.{◌≡◌, ℕ, ◌+◌, ◌≤◌, ◌<◌, ◌==◌, Bool, List, length, map, slice_index, slice_range}
use Rattle.std.specs.List.{list_any, flat_map}
use Rattle.channel_tables.specs.declared.sides.Side.{Side}
use Rattle.channel_tables.specs.declared.sides.Side.TheVariants.{Pad}
use Rattle.channel_tables.specs.declared.sides.Tapping.{Tapping}
use Rattle.channel_tables.specs.declared.sides.BlockSides.{BlockSides}
use Rattle.channel_tables.specs.Fabric.{Fabric, numbers_below}
use Rattle.channel_tables.specs.Wires.{tracks_in}
use Rattle.channel_tables.specs.Pins.{tapped_tracks}
use Rattle.channel_tables.specs.Sides.{taps_on, tapping_pins, tapping_pads, on_side}

-- for each track the table has the list that g gives
pub record IsTapping (g : ℕ → List ℕ) (tracks : ℕ) (t : Tapping) : Type 0 where
  pub starts : t.starts.items ≡ map (λ k. length (flat_map g (numbers_below k))) (numbers_below (tracks + 1))
  pub places : t.places.items ≡ flat_map g (numbers_below tracks)

pub record IsSides (f : Fabric) (s : BlockSides) : Type 0 where
  pub top : IsTapping (tapping_pins f (λ s. s.top)) (tracks_in f.mode f.width) s.top
  pub bottom : IsTapping (tapping_pins f (λ s. s.bottom)) (tracks_in f.mode f.width) s.bottom
  pub right : IsTapping (tapping_pins f (λ s. s.right)) (tracks_in f.mode f.width) s.right
  pub left : IsTapping (tapping_pins f (λ s. s.left)) (tracks_in f.mode f.width) s.left
  pub pads : IsTapping (tapping_pads f) (tracks_in f.mode f.width) s.pads

-- the track's places lie within the table
pub record HoldsTrack (t : Tapping) (track : ℕ) : Type 0 where
  pub listed : track + 1 < length t.starts.items
  pub ordered : slice_index t.starts.items track ≤ slice_index t.starts.items (track + 1)
  pub within : slice_index t.starts.items (track + 1) ≤ length t.places.items

-- what the table has for a track
unfoldable pub places_of_track : Tapping → (track : ℕ) → List ℕ
places_of_track t track = slice_range t.places.items (slice_index t.starts.items track) (slice_index t.starts.items (track + 1))

-- Fc of the input pins on a side, or of pads
abbrev pub fc_on : Side → Fabric → ℕ
fc_on Pad f = f.architecture.fc_pad
fc_on _ f = f.architecture.fc_input

-- an input pin on a side, or a pad, taps a track
abbrev pub taps_from : Side → Fabric → (track pin : ℕ) → Bool
taps_from Pad f track pin = list_any (λ t. t == track) (tapped_tracks f f.architecture.fc_pad pin)
taps_from side f track pin = taps_on f (on_side side) track pin
