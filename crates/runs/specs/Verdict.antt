-- The verdict of `check` on a routing, and the line that it prints (ours).
use Rattle.std.specs.Prelude.{◌≡◌, ◌≢◌, ◌↔◌, ℕ, List, ◌++◌, slice_index_or, Option, None, Some, codes, decimal}
use Rattle.net_file.specs.Netlist.{Netlist}
use Rattle.net_file.specs.Routed.{no_net}
use Rattle.rr_graph.specs.Fabric.{Fabric}
use Rattle.rr_graph.specs.Nodes.{node_at}
use Rattle.rr_graph.specs.Problems.{RoutingProblem, net_in}
use Rattle.route_tree.specs.declared.fault.TreeFault.{TreeFault}
use Rattle.route_tree.specs.declared.fault.TreeFault.TheVariants.{NoNet, WrongSource, NoSwitch, NodeTwice, SecondOutput, ForeignSink, Dangling, MissingSink, Order}
use Rattle.route_tree.specs.Paths.{Pair}
use Rattle.route_check.specs.declared.fault.RouteFault.{RouteFault}
use Rattle.route_check.specs.declared.fault.RouteFault.TheVariants.{Length, Unrouted, Tree, Overused}
use Rattle.route_check.specs.Routed.{IsRouted}
use Rattle.route_check.specs.Faults.{IsFirstRouteFault}
use Rattle.text_output.specs.NodeTexts.{text_of_node}

-- the verdict on a routing: none exactly if it routes the problem, a fault exactly if that is its
-- first; a routing that was read has an entry for each net
pub record IsVerdict (problem : RoutingProblem) (routing : List (Option (List Pair))) (verdict : Option RouteFault) : Type 0 where
  pub legal : (verdict ≡ None) ↔ IsRouted problem routing
  pub first : (f : RouteFault) → (verdict ≡ Some f) ↔ IsFirstRouteFault problem routing f
  pub fits : verdict ≢ Some Length

abbrev pub tree_fault_text : TreeFault → List ℕ
tree_fault_text NoNet = codes "NoNet"
tree_fault_text WrongSource = codes "WrongSource"
tree_fault_text NoSwitch = codes "NoSwitch"
tree_fault_text NodeTwice = codes "NodeTwice"
tree_fault_text SecondOutput = codes "SecondOutput"
tree_fault_text ForeignSink = codes "ForeignSink"
tree_fault_text Dangling = codes "Dangling"
tree_fault_text MissingSink = codes "MissingSink"
tree_fault_text Order = codes "Order"

-- a net that is not routed, as `not legal: net 0 (a): Unrouted`
unfoldable pub net_fault_text : (number : ℕ) → (name fault : List ℕ) → List ℕ
net_fault_text number name fault = codes "not legal: net " ++ (decimal number ++ (codes " (" ++ (name ++ (codes "): " ++ (fault ++ codes "\n")))))

-- net i of the problem, which is not routed
abbrev pub text_of_net : Netlist → RoutingProblem → ℕ → (fault : List ℕ) → List ℕ
text_of_net netlist p i fault =
    let number = (net_in p.nets i).number in net_fault_text number (slice_index_or netlist.nets number no_net).name fault

-- a node that too many nets use, as `not legal: node 39 CHANY (0,1) Track: 0 overused by 1`
unfoldable pub overuse_text : Fabric → (id by : ℕ) → List ℕ
overuse_text f id by =
    codes "not legal: node " ++ (decimal id ++ (codes " " ++ (text_of_node f (node_at f id) ++ (codes " overused by " ++ (decimal by ++ codes "\n")))))

-- the line of a verdict
abbrev pub verdict_text : Netlist → RoutingProblem → Option RouteFault → List ℕ
verdict_text netlist p None = codes "legal\n"
verdict_text netlist p (Some Length) = codes "not legal: Length\n"
verdict_text netlist p (Some (Unrouted net)) = text_of_net netlist p net (codes "Unrouted")
verdict_text netlist p (Some (Tree net fault)) = text_of_net netlist p net (tree_fault_text fault)
verdict_text netlist p (Some (Overused node by)) = overuse_text p.device node by

-- the exit status of a verdict
abbrev pub status_of_verdict : Option RouteFault → ℕ
status_of_verdict None = 0
status_of_verdict (Some f) = 3
