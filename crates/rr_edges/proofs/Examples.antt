-- Worked examples that compute.
use Rattle.std.proofs.Common.{◌≡◌, ℕ, true, List, [], ◌∷◌, refl}
use Rattle.arch_file.specs.Architecture.{Architecture}
use Rattle.arch_file.specs.declared.entries.FcType.TheVariants.{Absolute, Fractional}
use Rattle.arch_file.specs.declared.entries.Segment.{Segment}
use Rattle.arch_file.specs.declared.entries.SegmentLength.TheVariants.{Places}
use Rattle.channel_tables.specs.declared.node.Mode.{Mode}
use Rattle.channel_tables.specs.declared.node.Mode.TheVariants.{Detailed, Global}
use Rattle.channel_tables.specs.declared.node.Kind.TheVariants.{Chanx, Chany}
use Rattle.channel_tables.specs.Fabric.{Fabric}
use Rattle.channel_tables.specs.Wires.{weight_of_first, type_of, rank_of, length_of, begins, steps_of, places_of}
use Rattle.channel_tables.specs.Pins.{tap_count, tapped_tracks}
use Rattle.node_numbers.specs.Nodes.{node_of, is_same}
use Rattle.rr_edges.specs.Edges.{corners_of, touches, joins}

abbrev half : ℕ → Segment
half length = record { frequency = 500000000; length = Places length; wire_switch = 0; opin_switch = 0 }

abbrev block_of : List Segment → Architecture
block_of segments = record {
  io_rat = 2;
  pins = [];
  fc_type = Fractional;
  fc_output = 1000000000;
  fc_input = 1000000000;
  fc_pad = 1000000000;
  segments = segments;
  switches = [];
}

abbrev row_of : List Segment → ℕ → Mode → Fabric
row_of segments width mode = record { architecture = block_of segments; nx = 3; ny = 1; width = width; mode = mode }

-- two types of equal frequency share three tracks: the first has one, the second two
pub one_and_two : (type_of (half 1 ∷ half 2 ∷ []) 3 0 ≡ 0) × (type_of (half 1 ∷ half 2 ∷ []) 3 1 ≡ 1) × (type_of (half 1 ∷ half 2 ∷ []) 3 2 ≡ 1)
unfolding type_of weight_of_first
one_and_two = (refl, refl, refl)

-- wires two places long in a channel of three: of track 0 they are 1 to 2 and 3, of track 1 they
-- are 1 and 2 to 3
pub pairs_of_places : (places_of (row_of (half 2 ∷ []) 2 Detailed) 3 0 1 ≡ 1 ∷ 2 ∷ []) × (places_of (row_of (half 2 ∷ []) 2 Detailed) 3 0 3 ≡ 3 ∷ []) × (places_of (row_of (half 2 ∷ []) 2 Detailed) 3 1 1 ≡ 1 ∷ []) × (places_of (row_of (half 2 ∷ []) 2 Detailed) 3 1 2 ≡ 2 ∷ 3 ∷ [])
unfolding steps_of begins rank_of length_of type_of weight_of_first
pairs_of_places = (refl, refl, refl, refl)

-- in a global device each wire is one place long
pub one_place : places_of (row_of (half 2 ∷ []) 2 Global) 3 0 1 ≡ 1 ∷ []
unfolding steps_of begins rank_of length_of type_of weight_of_first
one_place = refl

-- a quarter of two tracks is half a track, which rounds up to one; of one track to none, and then
-- one is tapped all the same
pub half_a_track : (tap_count Fractional 250000000 2 ≡ 1) × (tap_count Fractional 250000000 1 ≡ 1) × (tap_count Absolute 2500000000 8 ≡ 3) × (tap_count Absolute 9000000000 8 ≡ 8)
half_a_track = (refl, refl, refl, refl)

-- half of four tracks, spread evenly, from pin 1 on
pub tapped_by_pin_1 : tapped_tracks (row_of (half 1 ∷ []) 4 Detailed) 500000000 1 ≡ 1 ∷ 3 ∷ []
unfolding tapped_tracks
tapped_by_pin_1 = refl

-- a wire of two places touches the corner in its middle, and joins the wire there that runs up
pub joins_in_the_middle : joins (row_of (half 2 ∷ []) 1 Detailed) (node_of Chanx 1 0 0) (node_of Chany 1 1 0) ≡ true
unfolding joins is_same touches corners_of steps_of begins rank_of length_of type_of weight_of_first
joins_in_the_middle = refl
