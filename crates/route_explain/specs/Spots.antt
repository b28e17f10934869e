-- Where a fault of a net's list shows in the net's section of the file (ours).
use Rattle.std.specs.Prelude.{ℕ, List, Option, None, Some}
use Rattle.rr_graph.specs.Fabric.{Fabric}
use Rattle.rr_graph.specs.Problems.{Net}
use Rattle.route_tree.specs.declared.fault.TreeFault.{TreeFault}
use Rattle.route_tree.specs.declared.fault.TreeFault.TheVariants.{NoNet, WrongSource, NoSwitch, NodeTwice, SecondOutput, ForeignSink, Dangling, MissingSink, Order}
use Rattle.route_tree.specs.Paths.{Pair}
use Rattle.route_explain.specs.declared.spots.Spot.{Spot}
use Rattle.route_explain.specs.declared.spots.Spot.TheVariants.{Heading, FirstNode, StepEnd}
use Rattle.route_explain.specs.Steps.{row_cut_off, row_leaving_again, row_out_of_order, row_that_ends_again, row_to_dead_end, row_to_foreign_sink, row_without_switch}

-- where the step at a row ends, if there is one
abbrev pub at_row : (row : Option ℕ) → Spot
at_row None = Heading
at_row (Some k) = StepEnd k

-- where a step ends at a dead end; else where one is cut off
abbrev pub loose_spot : (dead_end cut_off : Option ℕ) → Spot
loose_spot None cut_off = at_row cut_off
loose_spot (Some k) cut_off = StepEnd k

-- where a fault of these pairs shows, for a net of this source and these sinks
abbrev pub spot_of : Fabric → (source : ℕ) → (sinks : List ℕ) → List Pair → TreeFault → Spot
spot_of f source sinks pairs NoNet = Heading
spot_of f source sinks pairs WrongSource = FirstNode
spot_of f source sinks pairs NoSwitch = at_row (row_without_switch f pairs)
spot_of f source sinks pairs NodeTwice = at_row (row_that_ends_again source pairs)
spot_of f source sinks pairs SecondOutput = at_row (row_leaving_again source pairs)
spot_of f source sinks pairs ForeignSink = at_row (row_to_foreign_sink f sinks pairs)
spot_of f source sinks pairs Dangling = loose_spot (row_to_dead_end sinks pairs) (row_cut_off source pairs)
spot_of f source sinks pairs MissingSink = Heading
spot_of f source sinks pairs Order = at_row (row_out_of_order f source pairs)

-- where the fault of a net shows: for a net without a list, its section as a whole
abbrev pub fault_spot : Fabric → Net → List Pair → Option TreeFault → Spot
fault_spot f n pairs None = Heading
fault_spot f n pairs (Some fault) = spot_of f n.source n.sinks pairs fault
