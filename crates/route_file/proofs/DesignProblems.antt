-- Problems that are made of placed designs.
use Rattle.std.proofs.Common.{◌≡◌, true, refl, sym, subst}
use Rattle.net_file.specs.Netlist.{Netlist}
use Rattle.place_file.specs.Placement.{Placement}
use Rattle.rr_graph.specs.Fabric.{Fabric}
use Rattle.rr_graph.specs.Designs.{suits_design, problem_from}
use Rattle.rr_graph.specs.Problems.{RoutingProblem}
use Rattle.route_file.specs.Design.{IsDesign}

-- what is made of a design that fits a device is its problem there
pub design_made : (netlist : Netlist) (placement : Placement) (p : RoutingProblem) (f : Fabric) → suits_design f netlist placement ≡ true → p ≡ problem_from f netlist placement → IsDesign netlist placement p
unfolding problem_from
design_made netlist placement p f suits e =
    let made : IsDesign netlist placement (problem_from f netlist placement) = record { suits = suits; made = refl } in
    subst (IsDesign netlist placement) (sym e) made
