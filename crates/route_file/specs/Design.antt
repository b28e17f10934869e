-- The routing problem of a placed design (VPR and T-VPack manual 4.30).
use Rattle.std.specs.Prelude.{◌≡◌, true}
use Rattle.net_file.specs.Netlist.{Netlist}
use Rattle.place_file.specs.Placement.{Placement}
use Rattle.rr_graph.specs.Designs.{suits_design, problem_from}
use Rattle.rr_graph.specs.Problems.{RoutingProblem}

-- the placed design fits the problem's device, and the problem is the one that it makes there
pub record IsDesign (netlist : Netlist) (placement : Placement) (p : RoutingProblem) : Type 0 where
  pub suits : suits_design p.device netlist placement ≡ true
  pub made : p ≡ problem_from p.device netlist placement
