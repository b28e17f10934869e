-- An explanation isn't empty.
use Rattle.std.proofs.Common.{◌<◌, ℕ, List, length, Option, arith, length-append}
use Rattle.vpr_text.specs.Words.{Line}
use Rattle.net_file.specs.Netlist.{Netlist}
use Rattle.rr_graph.specs.Problems.{RoutingProblem}
use Rattle.route_tree.specs.Usage.{Lists}
use Rattle.route_check.specs.declared.fault.RouteFault.{RouteFault}
use Rattle.route_explain.specs.Explanation.{explanation_text}
use Rattle.report_run.specs.Overused.{overused_line}

pub explanation_filled : (path : List ℕ) (netlist : Netlist) (p : RoutingProblem) (lines : List Line) (lists : Lists) (faults : List (Option RouteFault)) → 0 < length (explanation_text path netlist p lines lists faults)
unfolding explanation_text overused_line
explanation_filled path netlist p lines lists faults = simp length-append (omega arith)
