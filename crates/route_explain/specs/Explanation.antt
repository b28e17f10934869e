-- The explanation of what is wrong with a routing (ours).
use Rattle.std.specs.Prelude.{◌≡◌, ℕ, ◌<◌, true, List, [], ◌++◌, codes, length, get_or, Option, None, Some, Result, ◌⊎◌}
use Rattle.std.specs.List.{flat_map}
use Rattle.vpr_text.specs.Words.{Line}
use Rattle.net_file.specs.Netlist.{Netlist}
use Rattle.rr_graph.specs.Fabric.{Fabric, numbers_below}
use Rattle.rr_graph.specs.Problems.{Net, RoutingProblem, net_in}
use Rattle.route_tree.specs.declared.fault.TreeFault.{TreeFault}
use Rattle.route_tree.specs.Paths.{Pair}
use Rattle.route_tree.specs.Usage.{Lists, list_in}
use Rattle.route_check.specs.declared.fault.RouteFault.{RouteFault}
use Rattle.route_check.specs.declared.fault.RouteFault.TheVariants.{Tree}
use Rattle.route_check.specs.Nets.{AreJudged}
use Rattle.route_report.specs.Overused.{overused_nodes}
use Rattle.run_inputs.specs.declared.fault.AppFault.{AppFault}
use Rattle.run_inputs.specs.Runs.{PrintsText, TakesAll, TakesFront, Writing}
use Rattle.runs.specs.Verdict.{tree_fault_text}
use Rattle.report_run.specs.Overused.{overuse_lines}
use Rattle.report_run.specs.Texts.{name_text}
use Rattle.route_explain.specs.Lines.{line_of_spot, starts_of, where_text}
use Rattle.route_explain.specs.Reasons.{reason_text}
use Rattle.route_explain.specs.Spots.{fault_spot}
use Rattle.route_explain.specs.Uses.{use_lines}

-- the name of a fault of these pairs for a net, and what it means
unfoldable pub tree_fault_words : Fabric → Net → List Pair → TreeFault → List ℕ
tree_fault_words f n pairs fault =
    tree_fault_text fault ++ (codes ": " ++ reason_text f n.source n.sinks pairs fault)

-- the pairs of a list; none if there is no list
abbrev pub pairs_in : Option (List Pair) → List Pair
pairs_in (Some pairs) = pairs
pairs_in None = []

-- what is wrong with the list of a net that has one
abbrev pub tree_fault_in : RouteFault → Option TreeFault
tree_fault_in (Tree net fault) = Some fault
tree_fault_in _ = None

-- the name of a net's fault, and what it means, for a net with these pairs
abbrev pub fault_words : Fabric → Net → List Pair → Option TreeFault → List ℕ
fault_words f n pairs None = codes "Unrouted: it has no list"
fault_words f n pairs (Some fault) = tree_fault_words f n pairs fault

-- the line of the file that the fault of net i is about; 0 if there is none
unfoldable pub fault_line_number : Netlist → RoutingProblem → List Line → Lists → ℕ → RouteFault → ℕ
fault_line_number netlist p lines lists i fault =
    let n = net_in p.nets i in
    line_of_spot p.device lines (get_or (starts_of netlist lines) n.number 0)
    (fault_spot p.device n (pairs_in (list_in lists i)) (tree_fault_in fault))

-- net i, as `net n_7: NoSwitch: no switch from CHANX (5,11) Track: 3 to CHANY (5,10) Track: 3`
unfoldable pub fault_text : Netlist → RoutingProblem → Lists → ℕ → RouteFault → List ℕ
fault_text netlist p lists i fault =
    codes "net" ++ (name_text netlist p i
    ++ (codes ": " ++ (fault_words p.device (net_in p.nets i) (pairs_in (list_in lists i)) (tree_fault_in fault) ++ codes "\n")))

-- the same, after the line of the file, as `a.route:123: net n_7: ..`
unfoldable pub fault_line : (path : List ℕ) → Netlist → RoutingProblem → List Line → Lists → ℕ → RouteFault → List ℕ
fault_line path netlist p lines lists i fault =
    where_text path (fault_line_number netlist p lines lists i fault) ++ fault_text netlist p lists i fault

-- nothing, unless the net has a fault
abbrev pub net_text : (path : List ℕ) → Netlist → RoutingProblem → List Line → Lists → ℕ → Option RouteFault → List ℕ
net_text path netlist p lines lists i None = []
net_text path netlist p lines lists i (Some fault) = fault_line path netlist p lines lists i fault

-- the text about net i, if these are the nets' faults
unfoldable pub net_text_at : (path : List ℕ) → Netlist → RoutingProblem → List Line → Lists → List (Option RouteFault) → ℕ → List ℕ
net_text_at path netlist p lines lists faults i = net_text path netlist p lines lists i (get_or faults i None)

-- a line for each net that has a fault
abbrev pub net_lines : (path : List ℕ) → Netlist → RoutingProblem → List Line → Lists → List (Option RouteFault) → List ℕ
net_lines path netlist p lines lists faults =
    flat_map (net_text_at path netlist p lines lists faults) (numbers_below (length p.nets))

-- the fault is that of the first net that has a line
pub record IsFirstLine (faults : List (Option RouteFault)) (fault : RouteFault) : Type 0 where
  pub net : ℕ
  pub within : net < length faults
  pub there : get_or faults net None ≡ Some fault
  pub none_before : (j : ℕ) → j < net → get_or faults j None ≡ None

-- the nets that have a fault, how many nodes are overused, a line for each of these, and one for
-- each line of the file that names one
unfoldable pub explanation_text : (path : List ℕ) → Netlist → RoutingProblem → List Line → Lists → List (Option RouteFault) → List ℕ
explanation_text path netlist p lines lists faults =
    net_lines path netlist p lines lists faults
    ++ (overuse_lines netlist p (overused_nodes p lists) ++ use_lines path netlist p lists lines)

-- the explanation of what is wrong with each net is printed
abbrev pub PrintsExplanation : (out : Writing) → (path : List ℕ) → Netlist → RoutingProblem → List Line → Lists → Result (Unit {0}) AppFault → Type 0
PrintsExplanation out path netlist p lines lists result =
    (faults : List (Option RouteFault))
    × AreJudged p lists faults
    × PrintsText out (explanation_text path netlist p lines lists faults) tt result

-- a line is printed: the sink took all of it, or failed and took a front of it
abbrev pub PrintsLine : Writing → (line : List ℕ) → Type 0
PrintsLine out line = TakesAll out line ⊎ ((out.failed ≡ true) × TakesFront out line)
