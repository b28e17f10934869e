-- How many nets a cut parts, of a routing problem and of a placed design, and what that says about
-- the channel width (this project's).
use Rattle.std.specs.Prelude.{ℕ, ◌+◌, ◌-◌, ◌/◌, Bool, false, List, count_by, Option, Some, None}
use Rattle.std.specs.List.{filter_map}
use Rattle.arch_file.specs.Architecture.{Architecture}
use Rattle.net_file.specs.Netlist as netlist
use Rattle.place_file.specs.Placement.{Placement}
use Rattle.rr_graph.specs.node.Mode.TheVariants.{Detailed}
use Rattle.rr_graph.specs.node.Node.{Node}
use Rattle.rr_graph.specs.Fabric.{Fabric}
use Rattle.rr_graph.specs.Nodes.{node_at}
use Rattle.rr_graph.specs.Problems.{Net, RoutingProblem}
use Rattle.rr_graph.specs.Designs.{problem_with}
use Rattle.width_bound.specs.Cuts.{Cut, is_cut}

abbrev pub is_cut_from : Fabric → Cut → Option Node → (sinks : List Node) → Bool
is_cut_from f cut (Some source) sinks = is_cut f cut source sinks
is_cut_from f cut None sinks = false

-- the net is cut
abbrev pub is_cut_net : Fabric → Cut → Net → Bool
is_cut_net f cut net = is_cut_from f cut (node_at f net.source) (filter_map (node_at f) net.sinks)

-- how many nets of a problem are cut
unfoldable pub cut_nets : RoutingProblem → Cut → ℕ
cut_nets p cut = count_by (is_cut_net p.device cut) p.nets

-- how many nets of a placed design are cut: at any width and in either mode as many as at width 1
abbrev pub cut_nets_of : Architecture → netlist.Netlist → Placement → Cut → ℕ
cut_nets_of a design placement cut = cut_nets (problem_with Detailed a design placement 1) cut

-- how wide channels have to be if this many nets are cut, this many pins are given up and the
-- border has this many places: each of these has room for as many nets as a channel has tracks,
-- rounded up
abbrev pub least_width : (nets pins places : ℕ) → ℕ
least_width nets pins places = ((nets - pins) + (places - 1)) / places
