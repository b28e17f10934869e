-- What a run of `report` answers and prints (ours).
use Rattle.std.specs.Prelude.{ℕ, List, [], Result, Ok, Err}
use Rattle.vpr_text.specs.declared.fault.TextFault.{TextFault}
use Rattle.vpr_text.specs.Text.{lines_of}
use Rattle.vpr_text.specs.Words.{Line}
use Rattle.rr_graph.specs.node.Mode.{Mode}
use Rattle.rr_graph.specs.Problems.{RoutingProblem}
use Rattle.route_tree.specs.Usage.{Lists}
use Rattle.run_inputs.specs.declared.fault.AppFault.{AppFault}
use Rattle.run_inputs.specs.declared.fault.InputFile.TheVariants as file
use Rattle.width_bound.specs.Cuts.{Cut}
use Rattle.run_inputs.specs.Inputs.{PlacedDesign, PlacedNetlist, after_design, design_on, routing_from}
use Rattle.run_inputs.specs.Runs.{DesignFiles, Input, PrintsText, StopsOrGoesOn, TakesNothing, Writing, bytes_in}
use Rattle.vpr_text.specs.Readings.{◌>>=◌}
use Rattle.bound_run.specs.Bounds.{IsTrueOf, figures_of}
use Rattle.report_run.specs.declared.form.ReportForm.{ReportForm}
use Rattle.report_run.specs.Report.{RouteReport, route_report_on, report_text}

-- a routing, the lines of its file, and the design that it is meant for
pub record Reported : Type 0 where
  pub design : PlacedDesign
  pub lines : List Line
  pub routing : Lists

abbrev pub lines_read : Result (List Line) TextFault → List Line
lines_read (Ok lines) = lines
lines_read (Err f) = []

abbrev pub reported_with : PlacedDesign → (bytes : List ℕ) → Lists → Reported
reported_with d bytes routing = record { design = d; lines = lines_read (lines_of bytes); routing = routing }

-- what the bytes of a routing file say, for a design
unfoldable pub reported_of : PlacedDesign → (bytes : List ℕ) → Result Reported AppFault
reported_of d bytes = routing_from d.netlist d.problem bytes >>= λ routing. Ok (reported_with d bytes routing)

unfoldable pub reported_on : PlacedDesign → (route : Input) → Result Reported AppFault
reported_on d route = bytes_in file.Route route >>= reported_of d

-- what the files of a design and a routing file say, for a device of this width and mode
abbrev pub reported_in : (width : ℕ) → Mode → DesignFiles → (route : Input) → Result Reported AppFault
reported_in = after_design reported_on

-- the text of a report is printed with the bound of some cut of the placed netlist, and that bound
-- is true
abbrev pub PrintsBounded : (form : ReportForm) → (out : Writing) → PlacedNetlist → RoutingProblem → List Line → RouteReport → Result (Unit {0}) AppFault → Type 0
PrintsBounded form out placed p lines r result =
    (found : Cut)
    × PrintsText out (report_text form placed.netlist p (figures_of placed found) lines r) tt result
    × IsTrueOf placed (figures_of placed found)

-- the report of a routing of the placed netlist is printed
abbrev pub PrintsReport : (form : ReportForm) → (out : Writing) → PlacedNetlist → Reported → Result (Unit {0}) AppFault → Type 0
PrintsReport form out placed r =
    let p = r.design.problem in
    PrintsBounded form out placed p r.lines (route_report_on p r.routing)

-- A run over a placed netlist, memory aside: if the routing file says a routing, its report is
-- printed.
abbrev pub RunsPlaced : (form : ReportForm) → (out : Writing) → PlacedNetlist → Result Reported AppFault → Result (Unit {0}) AppFault → Type 0
RunsPlaced form out placed = StopsOrGoesOn (TakesNothing out) (PrintsReport form out placed)

-- A run of `report`, memory aside: if its files say a placed netlist, and then a routing of it on
-- the device of this width and mode, the report of the routing is printed.
abbrev pub RunsReport : (form : ReportForm) → (out : Writing) → (width : ℕ) → Mode → (route : Input) → Result PlacedNetlist AppFault → Result (Unit {0}) AppFault → Type 0
RunsReport form out width mode route =
    StopsOrGoesOn (TakesNothing out) (λ placed. RunsPlaced form out placed (reported_on (design_on width mode placed) route))
