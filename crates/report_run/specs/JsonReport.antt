-- The report of a routing as an object of JSON (ours).
use Rattle.std.specs.Prelude.{ℕ, Bool, if◌then◌else◌, List, [], ◌∷◌, ◌++◌, codes, decimal, length, Option, None, Some}
use Rattle.std.specs.List.{flat_map, list_any}
use Rattle.std.specs.Option.{is_some}
use Rattle.vpr_text.specs.Words.{Line, number_at}
use Rattle.net_file.specs.Netlist.{Netlist}
use Rattle.rr_graph.specs.node.Kind.{Kind}
use Rattle.rr_graph.specs.node.Kind.TheVariants.{Chany}
use Rattle.rr_graph.specs.Fabric.{Fabric, numbers_below}
use Rattle.rr_graph.specs.Nodes.{node_at}
use Rattle.rr_graph.specs.Problems.{RoutingProblem}
use Rattle.text_output.specs.NodeTexts.{text_of_node}
use Rattle.route_report.specs.declared.each_net.NetFigures.{NetFigures}
use Rattle.route_report.specs.declared.each_net.NetTotals.{NetTotals}
use Rattle.route_report.specs.declared.figures.Figures.{Figures}
use Rattle.route_report.specs.declared.wire_types.WireTypeUse.{WireTypeUse}
use Rattle.route_report.specs.Channels.{Channel}
use Rattle.route_report.specs.Overused.{Overuse}
use Rattle.width_bound.specs.declared.figures.CutFigures.{CutFigures}
use Rattle.bound_run.specs.Bounds.{has_no_way, printed_width}
use Rattle.report_run.specs.Channels.{places_of_channel}
use Rattle.report_run.specs.Figures.{global_nets, places_in, wires_in}
use Rattle.report_run.specs.Json.{array, member, object, string_text}
use Rattle.report_run.specs.Named.{overused_on}
use Rattle.report_run.specs.Texts.{mean_text, name_of}

-- a part and the whole
unfoldable pub share_json : (part whole : ℕ) → List ℕ
share_json part whole = object (member (codes "count") (decimal part) ∷ member (codes "of") (decimal whole) ∷ [])

-- the width below which there is no routing; null if there is none at any width
unfoldable pub bound_json : CutFigures → List ℕ
bound_json b = if has_no_way b then codes "null" else decimal (printed_width b)

-- the name of net i of the problem, or null
unfoldable pub name_json : Netlist → RoutingProblem → ℕ → List ℕ
name_json netlist p i = string_text (name_of netlist p i)

abbrev pub name_or_null : Netlist → RoutingProblem → Option ℕ → List ℕ
name_or_null netlist p None = codes "null"
name_or_null netlist p (Some i) = name_json netlist p i

-- ---- the figures of the whole routing

abbrev pub figure_members : Netlist → RoutingProblem → CutFigures → Figures → List (List ℕ)
figure_members netlist p b c =
    member (codes "columns") (decimal p.device.nx) ∷ member (codes "rows") (decimal p.device.ny)
    ∷ member (codes "width") (decimal p.device.width) ∷ member (codes "bound") (bound_json b)
    ∷ member (codes "nets") (decimal (length netlist.nets)) ∷ member (codes "global") (decimal (global_nets netlist))
    ∷ member (codes "trees") (share_json c.listed c.nets) ∷ member (codes "wires") (share_json c.wires (wires_in p.device))
    ∷ member (codes "places") (share_json c.places (places_in p.device)) ∷ member (codes "wirelength") (decimal c.wirelength)
    ∷ member (codes "mean") (mean_text c.wirelength c.listed) ∷ member (codes "greatest") (decimal c.greatest) ∷ []

abbrev pub longest_member : Netlist → RoutingProblem → Figures → List (List ℕ)
longest_member netlist p c = member (codes "longest") (name_or_null netlist p c.longest) ∷ []

-- ---- bends, wires and places of the nets

unfoldable pub totals_json : Netlist → RoutingProblem → (listed : ℕ) → NetTotals → List ℕ
totals_json netlist p listed t =
    object (member (codes "total") (decimal t.total) ∷ member (codes "mean") (mean_text t.total listed)
    ∷ member (codes "most") (decimal t.most) ∷ member (codes "first") (name_or_null netlist p t.first) ∷ [])

abbrev pub net_members : Netlist → RoutingProblem → (listed : ℕ) → NetFigures → List (List ℕ)
net_members netlist p listed n =
    member (codes "net_bends") (totals_json netlist p listed n.bends)
    ∷ member (codes "net_wires") (totals_json netlist p listed n.wires)
    ∷ member (codes "net_places") (totals_json netlist p listed n.places) ∷ []

-- ---- types of wire, and channels

unfoldable pub type_json : WireTypeUse → List ℕ
type_json t =
    object (member (codes "tracks") (decimal t.tracks) ∷ member (codes "wires") (share_json t.wires_used t.wires)
    ∷ member (codes "places") (share_json t.places_used t.places) ∷ [])

unfoldable pub types_json : List WireTypeUse → List ℕ
types_json types = array type_json types

abbrev pub axis_json : Kind → List ℕ
axis_json Chany = codes "\"y\""
axis_json _ = codes "\"x\""

unfoldable pub channel_json : Fabric → Channel → List ℕ
channel_json f c =
    object (member (codes "axis") (axis_json c.kind) ∷ member (codes "number") (decimal c.number)
    ∷ member (codes "most") (decimal c.most) ∷ member (codes "mean") (mean_text c.total (places_of_channel f c.kind)) ∷ [])

unfoldable pub channels_json : Fabric → List Channel → List ℕ
channels_json f channels = array (channel_json f) channels

abbrev pub list_members : Fabric → List WireTypeUse → List Channel → List (List ℕ)
list_members f types channels =
    member (codes "types") (types_json types) ∷ member (codes "channels") (channels_json f channels) ∷ []

-- ---- the map: for each place of a channel how much is occupied, and how many wires are overused

unfoldable pub numbers_json : List ℕ → List ℕ
numbers_json ns = array decimal ns

unfoldable pub occupied_json : Channel → List ℕ
occupied_json c = numbers_json c.occupied

unfoldable pub occupancies_json : List Channel → List ℕ
occupancies_json channels = array occupied_json channels

unfoldable pub map_json : (all over : List Channel) → List ℕ
map_json all over =
    object (member (codes "occupied") (occupancies_json all) ∷ member (codes "overused") (occupancies_json over) ∷ [])

abbrev pub map_member : (all over : List Channel) → List (List ℕ)
map_member all over = member (codes "map") (map_json all over) ∷ []

-- ---- overused nodes, and the lines of the file that name one

unfoldable pub node_json : Fabric → ℕ → List ℕ
node_json f a = codes "\"" ++ (text_of_node f (node_at f a) ++ codes "\"")

unfoldable pub names_json : Netlist → RoutingProblem → List ℕ → List ℕ
names_json netlist p nets = array (name_json netlist p) nets

unfoldable pub overuse_json : Netlist → RoutingProblem → Overuse → List ℕ
overuse_json netlist p o =
    object (member (codes "node") (decimal o.node) ∷ member (codes "text") (node_json p.device o.node)
    ∷ member (codes "used") (share_json o.used o.capacity) ∷ member (codes "nets") (names_json netlist p o.nets) ∷ [])

unfoldable pub overuses_json : Netlist → RoutingProblem → List Overuse → List ℕ
overuses_json netlist p nodes = array (overuse_json netlist p) nodes

unfoldable pub naming_json : (line node : ℕ) → List ℕ
naming_json line node = object (member (codes "line") (decimal line) ∷ member (codes "node") (decimal node) ∷ [])

abbrev pub comma_if : (is_next : Bool) → List ℕ
comma_if is_next = if is_next then codes "," else []

-- a line that names a node, after a comma if an earlier line does too
abbrev pub named_json : (is_next : Bool) → (line : ℕ) → Option ℕ → List ℕ
named_json is_next line None = []
named_json is_next line (Some a) = comma_if is_next ++ naming_json line a

-- line i of the file names an overused node
abbrev pub is_naming : Fabric → (uses : List ℕ) → List Line → ℕ → Bool
is_naming f uses lines i = is_some (overused_on f uses lines i)

unfoldable pub named_item : Fabric → (uses : List ℕ) → List Line → ℕ → List ℕ
named_item f uses lines i =
    named_json (list_any (is_naming f uses lines) (numbers_below i)) (number_at lines i) (overused_on f uses lines i)

unfoldable pub lines_json : Fabric → (uses : List ℕ) → List Line → List ℕ
lines_json f uses lines = codes "[" ++ (flat_map (named_item f uses lines) (numbers_below (length lines)) ++ codes "]")

abbrev pub over_members : Netlist → RoutingProblem → (uses : List ℕ) → List Line → List Overuse → List (List ℕ)
over_members netlist p uses lines nodes =
    member (codes "overused") (overuses_json netlist p nodes)
    ∷ member (codes "lines") (lines_json p.device uses lines) ∷ []
