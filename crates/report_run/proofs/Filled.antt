-- A report isn't empty.
use Rattle.std.proofs.Common.{◌<◌, Bool, true, false, if◌then◌else◌, List, length, arith, length-append}
use Rattle.vpr_text.specs.Words.{Line}
use Rattle.net_file.specs.Netlist.{Netlist}
use Rattle.rr_graph.specs.Problems.{RoutingProblem}
use Rattle.width_bound.specs.declared.figures.CutFigures.{CutFigures}
use Rattle.report_run.specs.declared.form.ReportForm.{ReportForm}
use Rattle.report_run.specs.Figures.{device_lines}
use Rattle.report_run.specs.Report.{RouteReport, figure_lines, counted_lines, report_json, report_text, route_report_text}

module _ (form : ReportForm) (netlist : Netlist) (p : RoutingProblem) (b : CutFigures) (lines : List Line) (r : RouteReport) where
  lines_filled : 0 < length (route_report_text form netlist p b lines r)
  unfolding route_report_text counted_lines figure_lines device_lines
  lines_filled = simp length-append (omega arith)

  json_filled : 0 < length (report_json form netlist p b lines r)
  unfolding report_json
  json_filled = simp length-append (omega arith)

  in_form : (is_json : Bool) → 0 < length (if is_json then report_json form netlist p b lines r else route_report_text form netlist p b lines r)
  in_form true = json_filled
  in_form false = lines_filled

  pub report_filled : 0 < length (report_text form netlist p b lines r)
  report_filled = in_form form.json
