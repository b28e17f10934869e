-- Worked examples that compute. The first: one logic block, two pads on each side, and the line
-- that has the channel left of the block on one side and the one right of it on the other.
use Rattle.std.proofs.Common.{◌≡◌, ℕ, true, false, [], ◌∷◌, refl}
use Rattle.arch_file.specs.Architecture.{Architecture}
use Rattle.arch_file.specs.declared.entries.Direction.{Direction}
use Rattle.arch_file.specs.declared.entries.Direction.TheVariants.{Input, Output}
use Rattle.arch_file.specs.declared.entries.FcType.TheVariants.{Fractional}
use Rattle.arch_file.specs.declared.entries.Pin.{Pin}
use Rattle.arch_file.specs.declared.entries.Segment.{Segment}
use Rattle.arch_file.specs.declared.entries.SegmentLength.TheVariants.{Places}
use Rattle.arch_file.specs.declared.entries.Sides.{Sides}
use Rattle.rr_graph.specs.node.Kind.TheVariants.{Opin, Chanx, Chany}
use Rattle.rr_graph.specs.node.Mode.TheVariants.{Detailed}
use Rattle.rr_graph.specs.Fabric.{Fabric}
use Rattle.rr_graph.specs.Wires.{weight_of_first, type_of, rank_of, length_of, begins, steps_of}
use Rattle.rr_graph.specs.Pins.{belongs, channels_beside, classes_of, pins_of}
use Rattle.rr_graph.specs.Nodes.{is_same, node_of, nodes_of, numbers_at}
use Rattle.rr_graph.specs.Problems.{Net, RoutingProblem}
use Rattle.width_bound.specs.Cuts.{Cut, border_size, is_border, is_cut, is_given_up, has_corner, has_place, is_inner, is_outer, is_beside_inner, is_beside_outer, pins_left, places_of_array}
use Rattle.width_bound.specs.CutNets.{cut_nets, least_width}

abbrev left : Sides
left = record { top = false; bottom = false; left = true; right = false }

abbrev right : Sides
right = record { top = false; bottom = false; left = false; right = true }

abbrev pin : ℕ → Direction → Sides → Pin
pin class direction sides = record { class = class; direction = direction; global = false; sides = sides }

abbrev segment : Segment
segment = record { frequency = 1000000000; length = Places 1; wire_switch = 0; opin_switch = 0 }

-- an input pin, and two output pins of one class, left and right
abbrev block : Architecture
block = record {
  io_rat = 2;
  pins = pin 0 Input left ∷ pin 1 Output left ∷ pin 1 Output right ∷ [];
  fc_type = Fractional;
  fc_output = 1000000000;
  fc_input = 1000000000;
  fc_pad = 1000000000;
  segments = segment ∷ [];
  switches = [];
}

abbrev one_block : Fabric
one_block = record { architecture = block; nx = 1; ny = 1; width = 1; mode = Detailed }

abbrev net : ℕ → ℕ → ℕ → Net
net number source sink = record { number = number; source = source; sinks = sink ∷ [] }

-- the two pads on the left drive the two on the right, and the block drives those on the left
abbrev across : RoutingProblem
across = record { device = one_block; nets = net 0 0 16 ∷ net 1 1 17 ∷ net 2 4 9 ∷ net 3 4 10 ∷ [] }

-- the corners left of the block
abbrev line : Cut
line = record { corners = (0, 0) ∷ (0, 1) ∷ []; places = []; pins = [] }

-- the same, with the block's left output pin given up
abbrev line_and_pin : Cut
line_and_pin = record { corners = (0, 0) ∷ (0, 1) ∷ []; places = []; pins = node_of Opin 1 1 1 ∷ [] }

-- the channel on the left lies inside, the one on the right outside, those above and below between
pub sides_of_the_line : (is_inner line (Chany, 0, 1) ≡ true) × (is_outer line (Chany, 1, 1) ≡ true) × (is_border line (Chanx, 1, 0) ≡ true) × (border_size 1 1 line ≡ 2)
unfolding border_size places_of_array is_border is_inner is_outer has_corner has_place
sides_of_the_line = (refl, refl, refl, refl)

-- two nets have to pass the two places: that asks for one track
pub two_are_cut : (cut_nets across line ≡ 2) × (least_width 2 0 2 ≡ 1)
unfolding cut_nets is_cut pins_left is_given_up is_beside_inner is_beside_outer is_inner is_outer has_corner has_place belongs channels_beside nodes_of numbers_at classes_of pins_of is_same begins rank_of length_of type_of weight_of_first steps_of
two_are_cut = (refl, refl)

-- with the pin given up all four are cut, of which one may pass by it: three ask for two tracks
pub all_are_cut : (cut_nets across line_and_pin ≡ 4) × (least_width 4 1 2 ≡ 2)
unfolding cut_nets is_cut pins_left is_given_up is_beside_inner is_beside_outer is_inner is_outer has_corner has_place belongs channels_beside nodes_of numbers_at classes_of pins_of is_same begins rank_of length_of type_of weight_of_first steps_of
all_are_cut = (refl, refl)

-- ---- examples/crossing: two nets between pads, on an array of 2 x 2 blocks of examples/small.arch

abbrev bottom : Sides
bottom = record { top = false; bottom = true; left = false; right = false }

abbrev top : Sides
top = record { top = true; bottom = false; left = false; right = false }

abbrev small : Architecture
small = record {
  io_rat = 2;
  pins = pin 0 Input bottom ∷ pin 0 Input top ∷ pin 1 Output right ∷ [];
  fc_type = Fractional;
  fc_output = 1000000000;
  fc_input = 1000000000;
  fc_pad = 1000000000;
  segments = segment ∷ [];
  switches = [];
}

abbrev two_by_two : Fabric
two_by_two = record { architecture = small; nx = 2; ny = 2; width = 1; mode = Detailed }

-- net a leads from the pad at (1,0) to that at (3,2), and net b from (3,1) to (0,1)
abbrev crossing : RoutingProblem
crossing = record { device = two_by_two; nets = net 0 4 38 ∷ net 1 16 20 ∷ [] }

-- the corners of the columns 0 and 1
abbrev middle : Cut
middle = record { corners = (0, 0) ∷ (0, 1) ∷ (0, 2) ∷ (1, 0) ∷ (1, 1) ∷ (1, 2) ∷ []; places = []; pins = [] }

-- both nets have to pass the three places of column 2: one track has room for them
pub both_pass : (border_size 2 2 middle ≡ 3) × (cut_nets crossing middle ≡ 2) × (least_width 2 0 3 ≡ 1)
unfolding border_size places_of_array is_border cut_nets is_cut pins_left is_given_up is_beside_inner is_beside_outer is_inner is_outer has_corner has_place belongs channels_beside nodes_of numbers_at classes_of pins_of is_same begins rank_of length_of type_of weight_of_first steps_of
both_pass = (refl, refl, refl)
