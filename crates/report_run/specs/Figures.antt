-- The lines on the device, on the bound, and on the whole routing (ours).
use Rattle.std.specs.Prelude.{ℕ, List, [], ◌++◌, codes, decimal, filter, length, count_by, Option, None, Some}
use Rattle.std.specs.List.{sum_by}
use Rattle.net_file.specs.Netlist.{Netlist}
use Rattle.rr_graph.specs.Fabric.{Fabric, numbers_below}
use Rattle.rr_graph.specs.Nodes.{is_wire_at, node_count_of}
use Rattle.rr_graph.specs.Problems.{RoutingProblem}
use Rattle.route_report.specs.Wirelength.{places_at}
use Rattle.route_report.specs.declared.figures.Figures.{Figures}
use Rattle.width_bound.specs.declared.figures.CutFigures.{CutFigures}
use Rattle.bound_run.specs.CutTexts.{width_text}
use Rattle.report_run.specs.Texts.{mean_text, name_text, share_text}

-- how many wires the device has, and how many places these pass
unfoldable pub wires_in : Fabric → ℕ
wires_in f = count_by (is_wire_at f) (numbers_below (node_count_of f))

unfoldable pub places_in : Fabric → ℕ
places_in f = sum_by (places_at f) (numbers_below (node_count_of f))

-- how many nets a dedicated network carries
unfoldable pub global_nets : Netlist → ℕ
global_nets netlist = length (filter (λ net. net.global) netlist.nets)

-- as `array 10 x 8`, columns and rows, and `width 12`
unfoldable pub device_lines : Fabric → List ℕ
device_lines f =
    codes "array " ++ (decimal f.nx ++ (codes " x " ++ (decimal f.ny
    ++ (codes "\nwidth " ++ (decimal f.width ++ codes "\n")))))

-- as `bound 4`, the width below which there is no routing, or `bound none`, if there is none at any
-- width
unfoldable pub bound_line : CutFigures → List ℕ
bound_line b = codes "bound " ++ (width_text b ++ codes "\n")

-- as `nets 120`, `global 1` and `trees 117 of 119`: how many of the nets that are to be routed have
-- a list
unfoldable pub net_count_lines : Netlist → Figures → List ℕ
net_count_lines netlist c =
    codes "nets " ++ (decimal (length netlist.nets)
    ++ (codes "\nglobal " ++ (decimal (global_nets netlist)
    ++ (codes "\ntrees " ++ (share_text c.listed c.nets ++ codes "\n")))))

-- as `wires 345 of 2640` and `places 345 of 2640`: how many the nets cover, of all
unfoldable pub use_lines : Fabric → Figures → List ℕ
use_lines f c =
    codes "wires " ++ (share_text c.wires (wires_in f)
    ++ (codes "\nplaces " ++ (share_text c.places (places_in f) ++ codes "\n")))

abbrev pub longest_text : Netlist → RoutingProblem → Option ℕ → List ℕ
longest_text netlist p None = []
longest_text netlist p (Some i) = name_text netlist p i

-- as `wirelength 345`, `mean 2.89`, over the nets that have a list, and `greatest 21 n_17`, with
-- the first net that has it
unfoldable pub length_lines : Netlist → RoutingProblem → Figures → List ℕ
length_lines netlist p c =
    codes "wirelength " ++ (decimal c.wirelength
    ++ (codes "\nmean " ++ (mean_text c.wirelength c.listed
    ++ (codes "\ngreatest " ++ (decimal c.greatest ++ (longest_text netlist p c.longest ++ codes "\n"))))))
