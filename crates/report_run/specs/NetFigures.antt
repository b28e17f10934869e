-- The lines on the bends, wires and places of the nets (ours).
use Rattle.std.specs.Prelude.{ℕ, List, ◌++◌, codes, decimal}
use Rattle.net_file.specs.Netlist.{Netlist}
use Rattle.rr_graph.specs.Problems.{RoutingProblem}
use Rattle.route_report.specs.declared.each_net.NetFigures.{NetFigures}
use Rattle.route_report.specs.declared.each_net.NetTotals.{NetTotals}
use Rattle.report_run.specs.Figures.{longest_text}
use Rattle.report_run.specs.Texts.{mean_text}

-- as ` 321 mean 2.81 most 30 n_17`: the sum, the mean over this many nets that have a list, and the
-- greatest, with the first net that has it
unfoldable pub totals_text : Netlist → RoutingProblem → (listed : ℕ) → NetTotals → List ℕ
totals_text netlist p listed t =
    codes " " ++ (decimal t.total ++ (codes " mean " ++ (mean_text t.total listed
    ++ (codes " most " ++ (decimal t.most ++ (longest_text netlist p t.first ++ codes "\n"))))))

-- as `net bends 321 mean 2.81 most 30 n_17`, and so the lines `net wires` and `net places`
unfoldable pub net_lines : Netlist → RoutingProblem → (listed : ℕ) → NetFigures → List ℕ
net_lines netlist p listed n =
    codes "net bends" ++ (totals_text netlist p listed n.bends
    ++ (codes "net wires" ++ (totals_text netlist p listed n.wires
    ++ (codes "net places" ++ totals_text netlist p listed n.places))))
