-- Routings of trials that are kept.
use Rattle.std.specs.Prelude.{◌≡◌, true}
use Rattle.rr_graph.specs.Problems.{RoutingProblem}
use Rattle.route_tree.specs.Fits.{fits_problem}
use Rattle.route_tree.specs.Usage.{Lists}
use Rattle.run_inputs.specs.Inputs.{PlacedNetlist, placed_problem}

-- the problem is that of the placed netlist at its own width and mode
abbrev pub IsOfItsWidth : PlacedNetlist → RoutingProblem → Type 0
IsOfItsWidth placed p = p ≡ placed_problem p.device.mode placed p.device.width

-- the routing fits it
abbrev pub IsTrial : PlacedNetlist → RoutingProblem → Lists → Type 0
IsTrial placed p lists = IsOfItsWidth placed p × (fits_problem p lists ≡ true)
