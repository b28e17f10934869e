-- A placed netlist with its problem, as a design.
use Rattle.rr_graph.specs.Problems.{RoutingProblem}
use Rattle.run_inputs.specs.Inputs.{PlacedDesign, PlacedNetlist}

abbrev pub design_with : PlacedNetlist → RoutingProblem → PlacedDesign
design_with placed problem = record { netlist = placed.netlist; placement = placed.placement; problem = problem }
