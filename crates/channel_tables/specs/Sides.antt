-- The input pins and pads that tap a track: pins by the side of the block where they are reached.
use Rattle.std.specs.Prelude.{ℕ, ◌==◌, Bool, ◌&&◌, not, false, List, slice_get, Option, Some, None}
use Rattle.std.specs.List.{list_any}
use Rattle.arch_file.specs.declared.entries.Direction.TheVariants.{Input}
use Rattle.arch_file.specs.declared.entries.Pin.{Pin}
use Rattle.arch_file.specs.declared.entries.Sides.{Sides}
use Rattle.channel_tables.specs.Fabric.{Fabric, numbers_below}
use Rattle.channel_tables.specs.Pins.{pins_of, tapped_tracks, is_marked_global}
use Rattle.channel_tables.specs.Picks.{picks}
use Rattle.channel_tables.specs.declared.sides.Side.{Side}
use Rattle.channel_tables.specs.declared.sides.Side.TheVariants.{Top, Bottom, Right, Left, Pad}

-- the pin is reached on a side
abbrev pub has_side : (Sides → Bool) → Option Pin → Bool
has_side side (Some p) = side p.sides
has_side side None = false

-- an input pin of a block taps a track of the channel on a side
abbrev pub taps_on : Fabric → (Sides → Bool) → (track pin : ℕ) → Bool
taps_on f side track pin =
    not (is_marked_global (slice_get f.architecture.pins pin)) && (has_side side (slice_get f.architecture.pins pin) && list_any (λ t. t == track) (tapped_tracks f f.architecture.fc_input pin))

-- the places, among the input pins of a block, of those that tap a track of the channel on a side
unfoldable pub tapping_pins : Fabric → (Sides → Bool) → (track : ℕ) → List ℕ
tapping_pins f side track = picks (taps_on f side track) 0 (pins_of f.architecture Input)

-- the places, among the input pads of a place of the perimeter, of those that tap a track
unfoldable pub tapping_pads : Fabric → (track : ℕ) → List ℕ
tapping_pads f track = picks (λ p. list_any (λ t. t == track) (tapped_tracks f f.architecture.fc_pad p)) 0 (numbers_below f.architecture.io_rat)

-- ---- one side at a time
-- a pin with these sides is reached on the side
abbrev pub on_side : Side → Sides → Bool
on_side Top s = s.top
on_side Bottom s = s.bottom
on_side Right s = s.right
on_side Left s = s.left
on_side Pad s = false

-- the places, among the input pins of a block or the pads of a place, of those that tap a track on
-- a side
abbrev pub tapping_on : Side → Fabric → (track : ℕ) → List ℕ
tapping_on Pad f track = tapping_pads f track
tapping_on side f track = tapping_pins f (on_side side) track
