-- What a fault of a net's list means, in words, with the nodes that it is about (ours).
use Rattle.std.specs.Prelude.{ℕ, ◌==◌, List, [], ◌++◌, codes, length, Option, None, Some, if◌then◌else◌}
use Rattle.std.specs.List.{flat_map}
use Rattle.rr_graph.specs.Fabric.{Fabric}
use Rattle.rr_graph.specs.Nodes.{node_at}
use Rattle.route_tree.specs.declared.fault.TreeFault.{TreeFault}
use Rattle.route_tree.specs.declared.fault.TreeFault.TheVariants.{NoNet, WrongSource, NoSwitch, NodeTwice, SecondOutput, ForeignSink, Dangling, MissingSink, Order}
use Rattle.route_tree.specs.Paths.{Pair}
use Rattle.text_output.specs.NodeTexts.{text_of_node}
use Rattle.route_explain.specs.Steps.{ends_at, pair_at, row_cut_off, row_out_of_order, row_that_ends_again, row_to_dead_end, row_to_foreign_sink, row_without_switch}
use Rattle.route_explain.specs.Switches.{switch_reason}

-- the node of a number, as `CHANX (1,2) Track: 0`
abbrev pub node_text : Fabric → ℕ → List ℕ
node_text f a = text_of_node f (node_at f a)

-- a step, as `CHANX (5,11) Track: 3 to CHANY (5,10) Track: 3`
abbrev pub pair_text : Fabric → Pair → List ℕ
pair_text f p = node_text f p.0 ++ (codes " to " ++ node_text f p.1)

-- the step at a row
abbrev pub step_text : Fabric → List Pair → (row : Option ℕ) → List ℕ
step_text f pairs None = []
step_text f pairs (Some k) = pair_text f (pair_at pairs k)

-- the node at which it ends
abbrev pub end_text : Fabric → List Pair → (row : Option ℕ) → List ℕ
end_text f pairs None = []
end_text f pairs (Some k) = node_text f (pair_at pairs k).1

-- the node at which a list begins, and the one at which it should begin
unfoldable pub other_beginning_text : Fabric → (source : ℕ) → (node : ℕ) → List ℕ
other_beginning_text f source node =
    codes "the first step leaves " ++ (node_text f node ++ (codes " and not " ++ node_text f source))

-- where a list begins that doesn't begin at the source of its net
abbrev pub beginning_text : Fabric → (source : ℕ) → List Pair → List ℕ
beginning_text f source pairs =
    if length pairs == 0 then codes "no step leaves " ++ node_text f source
    else other_beginning_text f source (pair_at pairs 0).0

-- why there is no switch for the step at a row
abbrev pub why_text : Fabric → List Pair → (row : Option ℕ) → List ℕ
why_text f pairs None = []
why_text f pairs (Some k) = codes ": " ++ switch_reason f (pair_at pairs k)

unfoldable pub no_switch_text : Fabric → List Pair → List ℕ
no_switch_text f pairs =
    codes "no switch from "
    ++ (step_text f pairs (row_without_switch f pairs) ++ why_text f pairs (row_without_switch f pairs))

unfoldable pub met_again_text : Fabric → (source : ℕ) → List Pair → List ℕ
met_again_text f source pairs =
    codes "the steps come again to " ++ end_text f pairs (row_that_ends_again source pairs)

-- a step, if it leaves the source
abbrev pub leaving_text : Fabric → (source : ℕ) → Pair → List ℕ
leaving_text f source p = if p.0 == source then codes "; to " ++ node_text f p.1 else []

unfoldable pub outputs_text : Fabric → (source : ℕ) → List Pair → List ℕ
outputs_text f source pairs =
    codes "more than one step leaves " ++ (node_text f source ++ flat_map (leaving_text f source) pairs)

unfoldable pub foreign_sink_text : Fabric → (sinks : List ℕ) → List Pair → List ℕ
foreign_sink_text f sinks pairs =
    codes "no sink of the net is " ++ end_text f pairs (row_to_foreign_sink f sinks pairs)

-- if no step ends at a dead end: one that begins at a node that none leads to, else a circle
abbrev pub apart_text : Fabric → List Pair → (row : Option ℕ) → List ℕ
apart_text f pairs None = codes "steps go round in a circle"
apart_text f pairs (Some k) = codes "no step leads to " ++ node_text f (pair_at pairs k).0

abbrev pub loose_text : Fabric → (source : ℕ) → List Pair → (row : Option ℕ) → List ℕ
loose_text f source pairs None = apart_text f pairs (row_cut_off source pairs)
loose_text f source pairs (Some k) = codes "no step goes on from " ++ node_text f (pair_at pairs k).1

abbrev pub dangling_text : Fabric → (source : ℕ) → (sinks : List ℕ) → List Pair → List ℕ
dangling_text f source sinks pairs = loose_text f source pairs (row_to_dead_end sinks pairs)

-- a sink, unless a step leads there
abbrev pub missing_text : Fabric → List Pair → (sink : ℕ) → List ℕ
missing_text f pairs sink = if ends_at pairs sink then [] else codes "; none to " ++ node_text f sink

unfoldable pub missing_sinks_text : Fabric → (sinks : List ℕ) → List Pair → List ℕ
missing_sinks_text f sinks pairs =
    codes "no step leads to a sink of the net" ++ flat_map (missing_text f pairs) sinks

unfoldable pub out_of_order_text : Fabric → (source : ℕ) → List Pair → List ℕ
out_of_order_text f source pairs = codes "out of order is " ++ step_text f pairs (row_out_of_order f source pairs)

-- what a fault of these pairs means, for a net of this source and these sinks
abbrev pub reason_text : Fabric → (source : ℕ) → (sinks : List ℕ) → List Pair → TreeFault → List ℕ
reason_text f source sinks pairs NoNet = codes "there is no such net"
reason_text f source sinks pairs WrongSource = beginning_text f source pairs
reason_text f source sinks pairs NoSwitch = no_switch_text f pairs
reason_text f source sinks pairs NodeTwice = met_again_text f source pairs
reason_text f source sinks pairs SecondOutput = outputs_text f source pairs
reason_text f source sinks pairs ForeignSink = foreign_sink_text f sinks pairs
reason_text f source sinks pairs Dangling = dangling_text f source sinks pairs
reason_text f source sinks pairs MissingSink = missing_sinks_text f sinks pairs
reason_text f source sinks pairs Order = out_of_order_text f source pairs
