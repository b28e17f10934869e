-- The text of a routing (VPR and T-VPack manual 4.30, "Routing File Format"; which nets are
-- written, and in which order, is ours).
use Rattle.std.specs.Prelude.{ℕ, if◌then◌else◌, List, [], ◌∷◌, length, map, filter, Option, Some, None, slice_index_or}
use Rattle.std.specs.List.{flat_map}
use Rattle.net_file.specs.Blocks.{numbers_below}
use Rattle.net_file.specs.Connections.{no_block}
use Rattle.net_file.specs.Netlist.{Netlist, Net}
use Rattle.net_file.specs.Routed.{no_net, is_routed_net, is_routed_at}
use Rattle.net_file.specs.declared.terminal.Terminal.{Terminal}
use Rattle.place_file.specs.declared.site.Site.{Site}
use Rattle.place_file.specs.Placement.{Placement}
use Rattle.rr_graph.specs.node.Node.{Node}
use Rattle.rr_graph.specs.Fabric.{Fabric}
use Rattle.rr_graph.specs.Nodes.{node_at, span_of, label_of}
use Rattle.rr_graph.specs.Problems.{RoutingProblem}
use Rattle.route_tree.specs.Paths.{Pair}
use Rattle.route_file.specs.TextLine.{TextLine, Size, Blank, Heading, RoutedNet, GlobalNet, Block, NodeLine, line_text}
use Rattle.route_file.specs.PrintedNodes.{printed_nodes}

abbrev pub lines_of_node : Fabric → Option Node → List TextLine
lines_of_node f (Some n) = NodeLine n.kind (span_of f n) (label_of f n) n.number ∷ []
lines_of_node f None = []

-- the line of node a; none for what is no node
unfoldable pub node_lines : Fabric → ℕ → List TextLine
node_lines f a = lines_of_node f (node_at f a)

-- the lines of a net that is routed by these pairs
unfoldable pub routed_net_lines : Fabric → (number : ℕ) → (name : List ℕ) → Option (List Pair) → List TextLine
routed_net_lines f number name None = []
routed_net_lines f number name (Some pairs) = Blank ∷ RoutedNet number name ∷ Blank ∷ flat_map (node_lines f) (printed_nodes f pairs)

-- what is past the last site
abbrev pub no_site : Site
no_site = record { x = 0; y = 0; subblk = 0 }

-- the line of a pin on a global net
unfoldable pub block_line : Netlist → Placement → Terminal → TextLine
block_line netlist placement t =
    Block (slice_index_or netlist.blocks t.block no_block).name t.block
    (slice_index_or placement.sites t.block no_site).x (slice_index_or placement.sites t.block no_site).y t.class

-- the lines of a global net: what drives it, and what takes its signal
unfoldable pub global_net_lines : Netlist → Placement → (number : ℕ) → Net → List TextLine
global_net_lines netlist placement number n =
    Blank ∷ GlobalNet number n.name ∷ Blank ∷ map (block_line netlist placement) (n.driver ∷ n.sinks)

-- how many routed nets come before net n
unfoldable pub routed_before : Netlist → ℕ → ℕ
routed_before netlist n = length (filter (is_routed_at netlist) (numbers_below n))

-- the list of net n in a routing: the routed nets have its lists in their order
abbrev pub list_of : Netlist → (lists : List (Option (List Pair))) → ℕ → Option (List Pair)
list_of netlist lists n = slice_index_or lists (routed_before netlist n) None

-- the lines of a net, given its list: a net that is neither global nor routed has none
unfoldable pub lines_of_net : Netlist → Placement → Fabric → (number : ℕ) → Net → Option (List Pair) → List TextLine
lines_of_net netlist placement f number n list =
    if n.global then global_net_lines netlist placement number n
    else (if is_routed_net n then routed_net_lines f number n.name list else [])

-- the lines of net n
unfoldable pub net_lines : Netlist → Placement → Fabric → (lists : List (Option (List Pair))) → ℕ → List TextLine
net_lines netlist placement f lists n =
    lines_of_net netlist placement f n (slice_index_or netlist.nets n no_net) (list_of netlist lists n)

-- the lines of a routing: the size of the array, and the nets by number
unfoldable pub text_lines : Netlist → Placement → RoutingProblem → (lists : List (Option (List Pair))) → List TextLine
text_lines netlist placement p lists =
    Size p.device.nx p.device.ny ∷ Blank ∷ Heading
    ∷ flat_map (net_lines netlist placement p.device lists) (numbers_below (length netlist.nets))

-- the text of a routing
unfoldable pub text_of : Netlist → Placement → RoutingProblem → (lists : List (Option (List Pair))) → List ℕ
text_of netlist placement p lists = flat_map line_text (text_lines netlist placement p lists)
