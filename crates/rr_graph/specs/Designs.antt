-- Placed designs on a device: the nodes at which the nets of a netlist begin and end, and the
-- routing problem that they make (VPR and T-VPack manual 4.30; Betz, Rose and Marquardt 1999).
use Rattle.std.specs.Prelude.{ℕ, nat_eq, ◌==◌, Bool, true, false, not, ◌&&◌, ◌||◌, List, length, map, filter, Option, Some, None, is_some, unwrap_or, option_and_then, slice_get, slice_index_or}
use Rattle.std.specs.List.{list_any, list_all}
use Rattle.std.specs.Option.{option_eq}
use Rattle.arch_file.specs.Architecture.{Architecture}
use Rattle.net_file.specs.declared.terminal.Terminal.{Terminal}
use Rattle.net_file.specs.Netlist as netlist
use Rattle.net_file.specs.Routed.{no_net, is_routed_net, routed_numbers}
use Rattle.place_file.specs.declared.site.Site.{Site}
use Rattle.place_file.specs.Placement.{Placement}
use Rattle.channel_tables.specs.declared.node.Kind.{Kind}
use Rattle.channel_tables.specs.declared.node.Kind.TheVariants.{Source, Sink}
use Rattle.channel_tables.specs.declared.node.Mode.{Mode}
use Rattle.channel_tables.specs.Fabric.{Fabric, fabric_with, numbers_below, is_block}
use Rattle.node_numbers.specs.Nodes.{node_of, node_count_of, number_of}
use Rattle.routing_problem.specs.Problems.{Net, RoutingProblem}

-- what a terminal's node is numbered by: at a logic block the class of its pin, at pads, where it
-- has none, the position of its site
abbrev pub label_on : Bool → Option ℕ → Site → Option ℕ
label_on true (Some class) site = Some class
label_on true None site = None
label_on false (Some class) site = None
label_on false None site = Some site.subblk

-- the node of a kind on a site, for a pin of this class
abbrev pub node_on : Fabric → Kind → Option ℕ → Site → Option ℕ
node_on f kind class site =
    option_and_then (λ number. number_of f (node_of kind site.x site.y number)) (label_on (is_block f site.x site.y) class site)

-- the node of a terminal, on the site of its block: of kind Source if the terminal drives a net,
-- Sink if it takes its signal
unfoldable pub terminal_node : Fabric → Kind → Placement → Terminal → Option ℕ
terminal_node f kind placement terminal = option_and_then (node_on f kind terminal.class) (slice_get placement.sites terminal.block)

-- the terminal has a node
abbrev pub has_node : Fabric → Kind → Placement → Terminal → Bool
has_node f kind placement terminal = is_some (terminal_node f kind placement terminal)

-- what drives the net has a node, and all that takes its signal has one
abbrev pub has_nodes : Fabric → Placement → netlist.Net → Bool
has_nodes f placement net = has_node f Source placement net.driver && list_all (has_node f Sink placement) net.sinks

-- the placement's array has the size of the device's
abbrev pub has_size_of : Fabric → Placement → Bool
has_size_of f placement = f.nx == placement.nx && f.ny == placement.ny

-- each of so many blocks has a site
abbrev pub are_on_sites : Placement → ℕ → Bool
are_on_sites placement blocks = list_all (λ b. is_some (slice_get placement.sites b)) (numbers_below blocks)

-- the placed design fits the device: the arrays agree, all blocks have sites, and all terminals of
-- routed nets have nodes
unfoldable pub suits_design : Fabric → netlist.Netlist → Placement → Bool
suits_design f netlist placement =
    has_size_of f placement
    && (are_on_sites placement (length netlist.blocks) && list_all (λ net. not (is_routed_net net) || has_nodes f placement net) netlist.nets)

-- the terminal is at node i
abbrev pub stands_at : Fabric → Kind → Placement → ℕ → Terminal → Bool
stands_at f kind placement i terminal = option_eq nat_eq (Some i) (terminal_node f kind placement terminal)

-- the nodes of some of the sinks, ascending
unfoldable pub nodes_of_sinks : Fabric → Placement → List Terminal → List ℕ
nodes_of_sinks f placement sinks = filter (λ i. list_any (stands_at f Sink placement i) sinks) (numbers_below (node_count_of f))

-- a net with this number in its netlist, as the nodes that it joins
abbrev pub net_on_device : Fabric → Placement → ℕ → netlist.Net → Net
net_on_device f placement number net =
    record {
      number = number;
      source = unwrap_or (terminal_node f Source placement net.driver) 0;
      sinks = nodes_of_sinks f placement net.sinks;
    }

-- net n of a placed design
unfoldable pub net_of_design : Fabric → netlist.Netlist → Placement → ℕ → Net
net_of_design f netlist placement n = net_on_device f placement n (slice_index_or netlist.nets n no_net)

-- the routing problem of a placed design: its routed nets, by number
unfoldable pub problem_from : Fabric → netlist.Netlist → Placement → RoutingProblem
problem_from f netlist placement = record { device = f; nets = map (net_of_design f netlist placement) (routed_numbers netlist) }

-- the routing problem of a placed design on the device of its array
abbrev pub problem_with : Mode → Architecture → netlist.Netlist → Placement → (width : ℕ) → RoutingProblem
problem_with mode a netlist p width = problem_from (fabric_with p.nx p.ny width mode a) netlist p
