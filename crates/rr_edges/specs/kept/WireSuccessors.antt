-- The numbers of the nodes to which a wire leads: other wires of its track, and the pins and pads
-- that tap it.
use Rattle.std.specs.Prelude.{ℕ, ◌+◌, Bool, if◌then◌else◌, List, map}
use Rattle.arch_file.specs.declared.entries.Sides.{Sides}
use Rattle.channel_tables.specs.declared.node.Kind.TheVariants.{Ipin}
use Rattle.channel_tables.specs.Fabric.{Fabric, is_block}
use Rattle.node_numbers.specs.Starts.{place_start}
use Rattle.channel_tables.specs.Sides.{tapping_pins, tapping_pads}

-- the input pins of the block at (x, y) that tap a track of the channel on a side; at a place of
-- the perimeter the input pads that tap the track
unfoldable pub pins_beside : Fabric → (Sides → Bool) → (x y track : ℕ) → List ℕ
pins_beside f side x y track =
    map (λ j. place_start f Ipin x y + j) (if is_block f x y then tapping_pins f side track else tapping_pads f track)
