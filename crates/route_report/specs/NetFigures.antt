-- The bends, wires and places of the nets, each in all, and of the net that has the most (VPR 4.30,
-- its statistics of a routing).
use Rattle.std.specs.Prelude.{ℕ, List, length, map, count_by, sum}
use Rattle.routing_problem.specs.Fabric.{numbers_below}
use Rattle.routing_problem.specs.Nodes.{is_wire_at}
use Rattle.routing_problem.specs.Problems.{RoutingProblem}
use Rattle.route_tree.specs.Usage.{Lists}
use Rattle.route_report.specs.declared.each_net.NetTotals.{NetTotals}
use Rattle.route_report.specs.declared.each_net.NetFigures.{NetFigures}
use Rattle.route_report.specs.Bends.{bends_of_nets}
use Rattle.route_report.specs.Covered.{nodes_covered}
use Rattle.route_report.specs.Wirelength.{wirelengths_of, greatest_in, first_greatest}

-- how many wires net i covers
unfoldable pub wires_of : RoutingProblem → Lists → ℕ → ℕ
wires_of p lists i = count_by (is_wire_at p.device) (nodes_covered p lists i)

-- those of each net
abbrev pub wires_of_nets : RoutingProblem → Lists → List ℕ
wires_of_nets p lists = map (wires_of p lists) (numbers_below (length p.nets))

-- of a number for each net
abbrev pub totals_of : List ℕ → NetTotals
totals_of ns = record { total = sum ns; most = greatest_in ns; first = first_greatest ns }

abbrev pub net_figures_of : RoutingProblem → Lists → NetFigures
net_figures_of p lists = record {
  bends = totals_of (bends_of_nets p lists);
  wires = totals_of (wires_of_nets p lists);
  places = totals_of (wirelengths_of p lists);
}
