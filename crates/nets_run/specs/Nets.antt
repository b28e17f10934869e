-- The lines of the routed nets of a placed netlist (ours).
use Rattle.std.specs.Prelude.{ℕ, List, ◌++◌, codes, decimal, slice_index_or}
use Rattle.std.specs.List.{flat_map}
use Rattle.net_file.specs.Netlist.{Netlist}
use Rattle.net_file.specs.Routed.{no_net}
use Rattle.rr_graph.specs.Problems.{Net, RoutingProblem}

-- a sink, after a blank
unfoldable pub sink_text : (node : ℕ) → List ℕ
sink_text node = codes " " ++ decimal node

-- as `net 0 rx source 91 sinks`
unfoldable pub beginning_text : (number : ℕ) → (name : List ℕ) → (source : ℕ) → List ℕ
beginning_text number name source =
    codes "net " ++ (decimal number ++ (codes " " ++ (name ++ (codes " source " ++ (decimal source ++ codes " sinks")))))

-- the line of a routed net, as `net 0 rx source 91 sinks 121 125`: its number and its name in the
-- netlist, and the numbers of the nodes that it joins
unfoldable pub net_line : Netlist → Net → List ℕ
net_line netlist net =
    beginning_text net.number (slice_index_or netlist.nets net.number no_net).name net.source
    ++ (flat_map sink_text net.sinks ++ codes "\n")

-- the lines of all nets of a problem of the netlist, in order
unfoldable pub nets_text : Netlist → RoutingProblem → List ℕ
nets_text netlist p = flat_map (net_line netlist) p.nets
