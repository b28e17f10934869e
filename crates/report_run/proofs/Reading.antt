-- What a routing file says, stage by stage.
use Rattle.std.proofs.Common.{◌≡◌, ℕ, List, Result, Ok, Err, refl}
use Rattle.std.specs.Prelude.{IsOk}
use Rattle.vpr_text.specs.Text.{lines_of}
use Rattle.vpr_text.specs.Words.{Line}
use Rattle.vpr_text.specs.declared.fault.TextFault.{TextFault}
use Rattle.net_file.specs.Netlist.{Netlist}
use Rattle.rr_graph.specs.Problems.{RoutingProblem}
use Rattle.route_tree.specs.Usage.{Lists}
use Rattle.route_file.specs.declared.fault.RouteFileFault.{RouteFileFault}
use Rattle.route_file.specs.declared.fault.RouteFileFault.TheVariants as route
use Rattle.route_file.specs.Reading.{reading, routing_of}
use Rattle.vpr_text.specs.Readings.{◌>>=◌, with_fault}
use Rattle.run_inputs.specs.declared.fault.AppFault.TheVariants.{Route}
use Rattle.run_inputs.specs.declared.fault.AppFault.{AppFault}
use Rattle.run_inputs.specs.declared.fault.InputFile.TheVariants as file
use Rattle.run_inputs.specs.Inputs.{PlacedDesign, routing_from}
use Rattle.run_inputs.specs.Runs.{Input, bytes_in}
use Rattle.report_run.specs.ReportRun.{reported_of, reported_on, reported_with}

module _ (d : PlacedDesign) (bytes : List ℕ) where
  pub bytes_fail : (e : AppFault) → routing_from d.netlist d.problem bytes ≡ Err e → reported_of d bytes ≡ Err e
  unfolding reported_of
  bytes_fail e h = rw h refl

  pub bytes_go : (routing : Lists) → routing_from d.netlist d.problem bytes ≡ Ok routing → reported_of d bytes ≡ Ok (reported_with d bytes routing)
  unfolding reported_of
  bytes_go routing h = rw h refl

module _ (d : PlacedDesign) (route : Input) where
  pub file_fails : (e : AppFault) → bytes_in file.Route route ≡ Err e → reported_on d route ≡ Err e
  unfolding reported_on
  file_fails e h = rw h refl

  pub file_goes : (bytes : List ℕ) → bytes_in file.Route route ≡ Ok bytes → reported_on d route ≡ reported_of d bytes
  unfolding reported_on
  file_goes bytes h = rw h refl

-- ---- the lines of a routing file

lines_by : (text : Result (List Line) TextFault) (rest : List Line → Result Lists RouteFileFault) (r : Lists)
    → with_fault Route (with_fault route.Text text >>= rest) ≡ Ok r → IsOk text
lines_by (Ok lines) rest r e = refl
lines_by (Err f) rest r e = absurd cc

-- bytes that are read as a routing have lines
pub lines_there : (netlist : Netlist) (p : RoutingProblem) (bytes : List ℕ) (r : Lists) → routing_from netlist p bytes ≡ Ok r → IsOk (lines_of bytes)
unfolding routing_of
lines_there netlist p bytes r e = lines_by (lines_of bytes) (reading netlist p) r e
