-- What is found out before anything is printed.
use Rattle.std.specs.Prelude.{◌≡◌, ℕ, ◌<◌, true, List, length, map, get_or, Option, None, is_some}
use Rattle.vpr_text.specs.Words.{Line}
use Rattle.net_file.specs.Netlist.{Netlist}
use Rattle.rr_graph.specs.Problems.{RoutingProblem, net_in}
use Rattle.route_tree.specs.Usage.{Lists, list_in}
use Rattle.route_check.specs.declared.fault.RouteFault.{RouteFault}
use Rattle.route_check.specs.Nets.{AreJudged}
use Rattle.route_report.specs.Covered.{uses_of}
use Rattle.route_report.specs.Overused.{overused_nodes}
use Rattle.route_explain.specs.declared.findings.Findings.{Findings}
use Rattle.route_explain.specs.declared.index.NetIndex.{NetIndex}
use Rattle.route_explain.specs.Explanation.{pairs_in, tree_fault_in}
use Rattle.route_explain.specs.Lines.{line_of_spot, starts_of}
use Rattle.route_explain.specs.Spots.{fault_spot}
use Rattle.route_explain.specs.kept.Places.{IsIndex}

-- the line of the file that the fault of net i is about, if the sections begin at these places
abbrev pub line_from : (starts : List ℕ) → RoutingProblem → List Line → Lists → ℕ → RouteFault → ℕ
line_from starts p lines lists i fault =
    let n = net_in p.nets i in
    line_of_spot p.device lines (get_or starts n.number 0) (fault_spot p.device n (pairs_in (list_in lists i)) (tree_fault_in fault))

-- it is an index of the list of net i
abbrev pub IsIndexOf : RoutingProblem → Lists → ℕ → NetIndex → Type 0
IsIndexOf p lists i x = IsIndex (net_in p.nets i).sinks (pairs_in (list_in lists i)) x

-- each of the first k nets that has a fault has an index
pub record AreIndexes (p : RoutingProblem) (lists : Lists) (faults : List (Option RouteFault)) (k : ℕ) (indexes : List NetIndex) : Type 0 where
  pub count : length indexes ≡ k
  pub each : (i : ℕ) (d : NetIndex) → i < k → is_some (get_or faults i None) ≡ true → IsIndexOf p lists i (get_or indexes i d)

pub record AreFindings (netlist : Netlist) (p : RoutingProblem) (lines : List Line) (lists : Lists) (found : Findings) : Type 0 where
  pub judged : AreJudged p lists found.faults.items
  pub indexed : AreIndexes p lists found.faults.items (length p.nets) found.indexes.items
  pub starts : found.starts.items ≡ starts_of netlist lines
  pub uses : found.uses.items ≡ uses_of p lists
  pub overused : found.overused.items ≡ overused_nodes p lists
  pub nodes : found.nodes.items ≡ map (λ o. o.node) found.overused.items
