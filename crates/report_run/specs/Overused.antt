-- The lines on overused nodes (ours).
use Rattle.std.specs.Prelude.{ℕ, List, ◌++◌, codes, decimal, length}
use Rattle.std.specs.List.{flat_map}
use Rattle.net_file.specs.Netlist.{Netlist}
use Rattle.rr_graph.specs.Nodes.{node_at}
use Rattle.rr_graph.specs.Problems.{RoutingProblem}
use Rattle.route_report.specs.Overused.{Overuse}
use Rattle.text_output.specs.NodeTexts.{text_of_node}
use Rattle.report_run.specs.Texts.{name_text, share_text}

-- the names of nets of the problem
abbrev pub names_text : Netlist → RoutingProblem → List ℕ → List ℕ
names_text netlist p nets = flat_map (name_text netlist p) nets

-- as `node 39 CHANX (1,2) Track: 3 used 2 of 1 nets n_1 n_7`
unfoldable pub overuse_line : Netlist → RoutingProblem → Overuse → List ℕ
overuse_line netlist p o =
    codes "node " ++ (decimal o.node ++ (codes " " ++ (text_of_node p.device (node_at p.device o.node)
    ++ (codes " used " ++ (share_text o.used o.capacity
    ++ (codes " nets" ++ (names_text netlist p o.nets ++ codes "\n")))))))

-- as `overused 1`
unfoldable pub overused_line : (count : ℕ) → List ℕ
overused_line count = codes "overused " ++ (decimal count ++ codes "\n")

-- how many nodes are overused, and a line for each
abbrev pub overuse_lines : Netlist → RoutingProblem → List Overuse → List ℕ
overuse_lines netlist p nodes = overused_line (length nodes) ++ flat_map (overuse_line netlist p) nodes
