-- A worked example that computes: two pads left of one logic block, each the driver of a net that
-- an input pin of the block takes.
use Rattle.std.proofs.Common.{◌≡◌, ℕ, true, false, List, [], ◌∷◌, Some, None, refl}
use Rattle.arch_file.specs.Architecture.{Architecture}
use Rattle.arch_file.specs.declared.entries.Direction.{Direction}
use Rattle.arch_file.specs.declared.entries.Direction.TheVariants.{Input, Output}
use Rattle.arch_file.specs.declared.entries.FcType.TheVariants.{Fractional}
use Rattle.arch_file.specs.declared.entries.Pin.{Pin}
use Rattle.arch_file.specs.declared.entries.Segment.{Segment}
use Rattle.arch_file.specs.declared.entries.SegmentLength.TheVariants.{Places}
use Rattle.net_file.specs.declared.terminal.BlockKind.TheVariants.{InputPad, LogicBlock}
use Rattle.net_file.specs.declared.terminal.Terminal.{Terminal}
use Rattle.net_file.specs.Netlist as netlist
use Rattle.net_file.specs.Routed.{routed_numbers}
use Rattle.place_file.specs.declared.site.Site.{Site}
use Rattle.place_file.specs.Placement.{Placement}
use Rattle.channel_tables.specs.declared.node.Kind.TheVariants.{Source, Sink}
use Rattle.channel_tables.specs.declared.node.Mode.TheVariants.{Detailed}
use Rattle.rr_graph.specs.Designs.{terminal_node, suits_design, nodes_of_sinks, net_of_design, problem_from}
use Rattle.channel_tables.specs.Fabric.{Fabric}
use Rattle.node_numbers.specs.Nodes.{nodes_of, numbers_at, is_same}
use Rattle.channel_tables.specs.Pins.{classes_of, pins_of}
use Rattle.routing_problem.specs.Problems.{Net}
use Rattle.channel_tables.specs.Wires.{weight_of_first, type_of, rank_of, length_of, begins, steps_of}

abbrev pin : ℕ → Direction → Pin
pin class direction = record { class = class; direction = direction; global = false; sides = record { top = true; bottom = false; left = false; right = false } }

abbrev segment : Segment
segment = record { frequency = 1000000000; length = Places 1; wire_switch = 0; opin_switch = 0 }

abbrev lookup_table : Architecture
lookup_table = record {
  io_rat = 2;
  pins = pin 0 Input ∷ pin 0 Input ∷ pin 1 Output ∷ [];
  fc_type = Fractional;
  fc_output = 1000000000;
  fc_input = 1000000000;
  fc_pad = 1000000000;
  segments = segment ∷ [];
  switches = [];
}

abbrev one_block : Fabric
one_block = record { architecture = lookup_table; nx = 1; ny = 1; width = 1; mode = Detailed }

abbrev pad : ℕ → Terminal
pad block = record { block = block; class = None }

abbrev input_of : ℕ → Terminal
input_of block = record { block = block; class = Some 0 }

-- pads 0 and 1 drive nets 0 and 1, which block 2 takes
abbrev design : netlist.Netlist
design = record {
  blocks = record { kind = InputPad; name = 97 ∷ []; nets = Some 0 ∷ [] }
      ∷ record { kind = InputPad; name = 98 ∷ []; nets = Some 1 ∷ [] }
      ∷ record { kind = LogicBlock; name = 99 ∷ []; nets = Some 0 ∷ Some 1 ∷ None ∷ [] }
      ∷ [];
  nets = record { name = 97 ∷ []; global = false; driver = pad 0; sinks = input_of 2 ∷ [] }
      ∷ record { name = 98 ∷ []; global = false; driver = pad 1; sinks = input_of 2 ∷ [] }
      ∷ [];
}

abbrev site : ℕ → ℕ → ℕ → Site
site x y subblk = record { x = x; y = y; subblk = subblk }

abbrev placement : Placement
placement = record { nx = 1; ny = 1; sites = site 0 1 0 ∷ site 0 1 1 ∷ site 1 1 0 ∷ [] }

abbrev net : ℕ → ℕ → List ℕ → Net
net number source sinks = record { number = number; source = source; sinks = sinks }

-- both nets lead to the one sink of the block's inputs
pub two_pads_and_a_block : (suits_design one_block design placement ≡ true) × ((problem_from one_block design placement).nets ≡ net 0 0 (13 ∷ []) ∷ net 1 1 (13 ∷ []) ∷ [])
unfolding suits_design terminal_node nodes_of_sinks net_of_design problem_from routed_numbers nodes_of numbers_at classes_of pins_of is_same begins rank_of length_of type_of weight_of_first steps_of
two_pads_and_a_block = (refl, refl)

-- a class at a pad's place is no node, and neither is a position at a block's
pub labels_agree : (terminal_node one_block Source placement (record { block = 0; class = Some 1 }) ≡ None) × (terminal_node one_block Source placement (pad 2) ≡ None) × (terminal_node one_block Sink placement (pad 0) ≡ Some 9)
unfolding terminal_node nodes_of numbers_at classes_of pins_of is_same begins rank_of length_of type_of weight_of_first steps_of
labels_agree = (refl, refl, refl)
