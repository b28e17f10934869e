-- The report of a routing, legal or not, and its text (ours).
use Rattle.std.specs.Prelude.{if◌then◌else◌, ℕ, List, [], ◌++◌, codes}
use Rattle.vpr_text.specs.Words.{Line}
use Rattle.net_file.specs.Netlist.{Netlist}
use Rattle.rr_graph.specs.Fabric.{Fabric}
use Rattle.rr_graph.specs.Problems.{RoutingProblem}
use Rattle.route_tree.specs.Usage.{Lists}
use Rattle.route_report.specs.declared.figures.Figures.{Figures}
use Rattle.route_report.specs.declared.each_net.NetFigures.{NetFigures}
use Rattle.route_report.specs.declared.wire_types.WireTypeUse.{WireTypeUse}
use Rattle.route_report.specs.Channels.{Channel, channels_of}
use Rattle.route_report.specs.Covered.{uses_of}
use Rattle.route_report.specs.Figures.{figures_of}
use Rattle.route_report.specs.NetFigures.{net_figures_of}
use Rattle.route_report.specs.Overused.{Overuse, overused_nodes}
use Rattle.route_report.specs.WireTypes.{wire_types_of}
use Rattle.width_bound.specs.declared.figures.CutFigures.{CutFigures}
use Rattle.report_run.specs.declared.form.ReportForm.{ReportForm}
use Rattle.report_run.specs.Channels.{channel_lines}
use Rattle.report_run.specs.Figures.{bound_line, device_lines, length_lines, net_count_lines, use_lines}
use Rattle.report_run.specs.Json.{object}
use Rattle.report_run.specs.JsonReport.{figure_members, list_members, longest_member, map_member, net_members, over_members}
use Rattle.report_run.specs.Map.{map_text, overused_channels}
use Rattle.report_run.specs.Named.{naming_lines}
use Rattle.report_run.specs.NetFigures.{net_lines}
use Rattle.report_run.specs.Overused.{overuse_lines}
use Rattle.report_run.specs.WireTypes.{type_lines}

-- the figures of a routing, how many nets cover each node, and how many overused wires run through
-- each place of the channels
pub record RouteReport : Type 0 where
  pub uses : List ℕ
  pub figures : Figures
  pub nets : NetFigures
  pub types : List WireTypeUse
  pub channels : List Channel
  pub over : List Channel
  pub overused : List Overuse

abbrev pub route_report_on : RoutingProblem → Lists → RouteReport
route_report_on p lists = record {
  uses = uses_of p lists;
  figures = figures_of p lists;
  nets = net_figures_of p lists;
  types = wire_types_of p.device (uses_of p lists);
  channels = channels_of p.device (uses_of p lists);
  over = overused_channels p.device (uses_of p lists);
  overused = overused_nodes p lists;
}

-- the lines on the whole routing, and the line on the bound that the figures of a cut give
unfoldable pub figure_lines : Netlist → RoutingProblem → CutFigures → Figures → List ℕ
figure_lines netlist p b c =
    device_lines p.device
    ++ (bound_line b ++ (net_count_lines netlist c ++ (use_lines p.device c ++ length_lines netlist p c)))

-- the lines of a report, without those on the file
unfoldable pub counted_lines : Netlist → RoutingProblem → CutFigures → RouteReport → List ℕ
counted_lines netlist p b r =
    figure_lines netlist p b r.figures
    ++ (type_lines r.types ++ (channel_lines p.device r.channels ++ overuse_lines netlist p r.overused))

-- the lines on the bends, wires and places of the nets, if they are asked for
abbrev pub net_lines_if : ReportForm → Netlist → RoutingProblem → RouteReport → List ℕ
net_lines_if form netlist p r = if form.full then net_lines netlist p r.figures.listed r.nets else []

abbrev pub map_if : ReportForm → Fabric → RouteReport → List ℕ
map_if form f r = if form.map then map_text f r.channels r.over else []

-- the lines of a report, those on the lines of the file, and those on the nets and on the map that
-- are asked for
unfoldable pub route_report_text : (form : ReportForm) → Netlist → RoutingProblem → CutFigures → List Line → RouteReport → List ℕ
route_report_text form netlist p b lines r =
    counted_lines netlist p b r
    ++ (naming_lines p.device r.uses lines ++ (net_lines_if form netlist p r ++ map_if form p.device r))

-- ---- in JSON

abbrev pub net_members_if : ReportForm → Netlist → RoutingProblem → RouteReport → List (List ℕ)
net_members_if form netlist p r = if form.full then net_members netlist p r.figures.listed r.nets else []

abbrev pub map_member_if : ReportForm → RouteReport → List (List ℕ)
map_member_if form r = if form.map then map_member r.channels r.over else []

-- the members of the object: those on the whole routing, on its parts, and on the lines of the file
abbrev pub report_members : ReportForm → Netlist → RoutingProblem → CutFigures → List Line → RouteReport → List (List ℕ)
report_members form netlist p b lines r =
    figure_members netlist p b r.figures ++ (longest_member netlist p r.figures
    ++ (net_members_if form netlist p r ++ (list_members p.device r.types r.channels
    ++ (map_member_if form r ++ over_members netlist p r.uses lines r.overused))))

unfoldable pub report_json : ReportForm → Netlist → RoutingProblem → CutFigures → List Line → RouteReport → List ℕ
report_json form netlist p b lines r = object (report_members form netlist p b lines r) ++ codes "\n"

-- the report as text, or as an object of JSON if that is asked for
abbrev pub report_text : ReportForm → Netlist → RoutingProblem → CutFigures → List Line → RouteReport → List ℕ
report_text form netlist p b lines r =
    if form.json then report_json form netlist p b lines r else route_report_text form netlist p b lines r
