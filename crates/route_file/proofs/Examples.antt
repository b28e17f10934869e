-- Texts of routings that are known.
use Rattle.std.proofs.Common.{◌≡◌, true, false, [], ◌∷◌, Some, None, codes, refl}
use Rattle.std.specs.Fmt.{digits}
use Rattle.arch_file.specs.declared.entries.Direction.TheVariants.{Input, Output}
use Rattle.arch_file.specs.declared.entries.FcType.TheVariants.{Fractional}
use Rattle.arch_file.specs.declared.entries.SegmentLength.TheVariants.{Places}
use Rattle.net_file.specs.Netlist.{Netlist}
use Rattle.net_file.specs.declared.terminal.BlockKind.TheVariants.{InputPad, LogicBlock}
use Rattle.place_file.specs.Placement.{Placement}
use Rattle.rr_graph.specs.node.Kind.TheVariants.{Chanx}
use Rattle.rr_graph.specs.node.Label.TheVariants.{Track}
use Rattle.rr_graph.specs.node.Mode.TheVariants.{Detailed}
use Rattle.rr_graph.specs.Fabric.{Fabric}
use Rattle.rr_graph.specs.Problems.{is_sink}
use Rattle.rr_graph.specs.Nodes.{nodes_of, numbers_at}
use Rattle.rr_graph.specs.Wires.{begins, length_of, rank_of, type_of, weight_of_first, steps_of}
use Rattle.rr_graph.specs.Pins.{classes_of, pins_of}
use Rattle.std.specs.List.{flat_map}
use Rattle.route_file.specs.PrintedNodes.{printed_nodes}
use Rattle.route_file.specs.TextLine.{line_text, Block, NodeLine, bytes_on}
use Rattle.text_output.specs.NodeTexts.{place_text, span_text}
use Rattle.route_file.specs.Text.{node_lines, block_line, global_net_lines, routed_net_lines, lines_of_net, net_lines, routed_before, text_lines, text_of}

-- an input of a logic block, and the pad of a clock
pub block_lines : (bytes_on (Block (codes "x") 2 1 1 (Some 2)) ≡ codes "Block x (#2) at (1,1), pinclass 2.") × (bytes_on (Block (codes "clk") 1 0 1 None) ≡ codes "Block clk (#1) at (0,1), pinclass -1.")
unfolding digits bytes_on place_text
block_lines = (refl, refl)

-- a wire of one place, and one of two
pub wire_lines :
    (bytes_on (NodeLine Chanx (record { x1 = 1; y1 = 0; x2 = 1; y2 = 0 }) Track 0) ≡ codes " CHANX (1,0)  Track: 0")
    × (bytes_on (NodeLine Chanx (record { x1 = 1; y1 = 0; x2 = 2; y2 = 0 }) Track 0) ≡ codes " CHANX (1,0) to (2,0)  Track: 0")
unfolding digits bytes_on span_text place_text
wire_lines = (refl, refl)

abbrev one_block : Fabric
one_block = record {
  architecture = record {
    io_rat = 1;
    pins = [];
    fc_type = Fractional;
    fc_output = 1000000000;
    fc_input = 1000000000;
    fc_pad = 1000000000;
    segments = record { frequency = 1000000000; length = Places 1; wire_switch = 0; opin_switch = 0 } ∷ [];
    switches = [];
  };
  nx = 1;
  ny = 1;
  width = 1;
  mode = Detailed;
}

abbrev no_nets : Netlist
no_nets = record { blocks = []; nets = [] }

abbrev no_sites : Placement
no_sites = record { nx = 1; ny = 1; sites = [] }

-- the routing of a design without nets
pub empty_text : text_of no_nets no_sites (record { device = one_block; nets = [] }) [] ≡ codes "Array size: 1 x 1 logic blocks.\n\nRouting:\n"
unfolding digits text_of text_lines bytes_on
empty_text = refl

-- a clock from a pad to a logic block, a net that nothing takes, and a net that has no list
abbrev clocked : Netlist
clocked = record {
  blocks =
      record { kind = InputPad; name = codes "clk"; nets = Some 0 ∷ [] }
      ∷ record { kind = LogicBlock; name = codes "x"; nets = Some 2 ∷ Some 1 ∷ Some 0 ∷ [] }
      ∷ [];
  nets =
      record { name = codes "clk"; global = true; driver = record { block = 0; class = None }; sinks = record { block = 1; class = Some 2 } ∷ [] }
      ∷ record { name = codes "q"; global = false; driver = record { block = 1; class = Some 1 }; sinks = [] }
      ∷ record { name = codes "y"; global = false; driver = record { block = 1; class = Some 1 }; sinks = record { block = 1; class = Some 0 } ∷ [] }
      ∷ [];
}

abbrev placed : Placement
placed = record { nx = 1; ny = 1; sites = record { x = 0; y = 1; subblk = 0 } ∷ record { x = 1; y = 1; subblk = 0 } ∷ [] }

pub clocked_text :
    (text_of clocked placed (record { device = one_block; nets = record { number = 2; source = 4; sinks = 9 ∷ [] } ∷ [] }) (None ∷ [])
    ≡ codes "Array size: 1 x 1 logic blocks.\n\nRouting:\n\nNet 0 (clk): global net connecting:\n\nBlock clk (#0) at (0,1), pinclass -1.\nBlock x (#1) at (1,1), pinclass 2.\n")
    × (text_of clocked placed (record { device = one_block; nets = record { number = 2; source = 4; sinks = 9 ∷ [] } ∷ [] }) (Some [] ∷ [])
    ≡ codes "Array size: 1 x 1 logic blocks.\n\nRouting:\n\nNet 0 (clk): global net connecting:\n\nBlock clk (#0) at (0,1), pinclass -1.\nBlock x (#1) at (1,1), pinclass 2.\n\nNet 2 (y)\n\n")
unfolding digits text_of text_lines net_lines lines_of_net global_net_lines routed_net_lines block_line routed_before bytes_on place_text
clocked_text = (refl, refl)

-- a logic block with two inputs that are equivalent and an output, and two pads at each place
abbrev small_block : Fabric
small_block = record {
  architecture = record {
    io_rat = 2;
    pins =
        record { class = 0; direction = Input; global = false; sides = record { top = false; bottom = true; left = false; right = false } }
        ∷ record { class = 0; direction = Input; global = false; sides = record { top = true; bottom = false; left = false; right = false } }
        ∷ record { class = 1; direction = Output; global = false; sides = record { top = false; bottom = false; left = false; right = true } }
        ∷ [];
    fc_type = Fractional;
    fc_output = 1000000000;
    fc_input = 1000000000;
    fc_pad = 1000000000;
    segments = record { frequency = 1000000000; length = Places 1; wire_switch = 0; opin_switch = 0 } ∷ [];
    switches = [];
  };
  nx = 1;
  ny = 1;
  width = 1;
  mode = Detailed;
}

-- a net from a pad to the logic block
pub path_text :
    flat_map line_text (routed_net_lines small_block 0 (codes "a") (Some ((0, 18) ∷ (18, 39) ∷ (39, 37) ∷ (37, 31) ∷ (31, 13) ∷ [])))
    ≡ codes "\nNet 0 (a)\n\nSOURCE (0,1)  Pad: 0\n  OPIN (0,1)  Pad: 0\n CHANY (0,1)  Track: 0\n CHANX (1,0)  Track: 0\n  IPIN (1,1)  Pin: 0\n  SINK (1,1)  Class: 0\n"
unfolding digits bytes_on routed_net_lines node_lines nodes_of numbers_at classes_of pins_of is_sink begins length_of rank_of type_of weight_of_first steps_of span_text place_text
path_text = refl

-- a path after a sink begins with the node where it joins; a pair that begins at a sink names it
-- again
pub joints :
    (printed_nodes small_block ((37, 31) ∷ (31, 13) ∷ (37, 40) ∷ (40, 35) ∷ []) ≡ 37 ∷ 31 ∷ 13 ∷ 37 ∷ 40 ∷ 35 ∷ [])
    × (printed_nodes small_block ((31, 13) ∷ (13, 37) ∷ []) ≡ 31 ∷ 13 ∷ 13 ∷ 37 ∷ [])
unfolding nodes_of numbers_at classes_of pins_of is_sink begins length_of rank_of type_of weight_of_first steps_of
joints = (refl, refl)
