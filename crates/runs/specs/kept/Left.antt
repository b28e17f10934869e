-- The lines on the nets for which a negotiation without success left no tree (ours).
use Rattle.std.specs.Prelude.{ℕ, List, ◌++◌, slice_index_or, codes}
use Rattle.std.specs.List.{flat_map}
use Rattle.net_file.specs.Netlist.{Netlist}
use Rattle.net_file.specs.Routed.{no_net}
use Rattle.rr_graph.specs.Fabric.{Fabric}
use Rattle.rr_graph.specs.Nodes.{node_at}
use Rattle.rr_graph.specs.Problems.{RoutingProblem, net_in}
use Rattle.text_output.specs.NodeTexts.{text_of_node}

-- a net by its name, and a sink that no path leads to, as `net a: stuck at SINK (1,1) Class: 0`
unfoldable pub stuck_line : Fabric → (name : List ℕ) → (sink : ℕ) → List ℕ
stuck_line f name sink = codes "net " ++ (name ++ (codes ": stuck at " ++ (text_of_node f (node_at f sink) ++ codes "\n")))

-- a net of the problem, and the sink
abbrev pub stuck_net : Netlist → RoutingProblem → ℕ × ℕ → List ℕ
stuck_net netlist p e = stuck_line p.device (slice_index_or netlist.nets (net_in p.nets e.0).number no_net).name e.1

-- the lines of all these
abbrev pub stuck_text : Netlist → RoutingProblem → List (ℕ × ℕ) → List ℕ
stuck_text netlist p stuck = flat_map (stuck_net netlist p) stuck
