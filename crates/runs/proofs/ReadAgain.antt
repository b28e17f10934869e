-- The text of a routing that routes a design is read as this routing.
use Rattle.std.proofs.Common.{◌≡◌, ◌^◌, ◌≤◌, length, Ok, ap}
use Rattle.net_file.specs.Facts.{IsNetlist}
use Rattle.rr_graph.specs.Fabric.{IsFabric}
use Rattle.route_tree.specs.Usage.{Lists}
use Rattle.route_check.specs.Routed.{IsRouted}
use Rattle.route_check.proofs.Fitting.{routed_fits}
use Rattle.route_file.specs.Design.{IsDesign}
use Rattle.route_file.specs.Text.{text_of}
use Rattle.route_file.proofs.ReadBack.{read_back}
use Rattle.route_file.proofs.Related.{is_given}
use Rattle.route_file.proofs.RoutesReported.{reported_routing}
use Rattle.vpr_text.specs.Readings.{with_fault}
use Rattle.run_inputs.specs.declared.fault.AppFault.TheVariants.{Route}
use Rattle.run_inputs.specs.Inputs.{PlacedDesign, routing_from}

pub read_again : (d : PlacedDesign) (lists : Lists) → IsNetlist d.netlist → IsFabric d.problem.device → IsDesign d.netlist d.placement d.problem
    → IsRouted d.problem lists → length (text_of d.netlist d.placement d.problem lists) ≤ 2 ^ 24
    → routing_from d.netlist d.problem (text_of d.netlist d.placement d.problem lists) ≡ Ok lists
read_again d lists facts fabric design routed short =
    let p = d.problem in
    let back = read_back d.netlist d.placement p lists facts fabric design (routed_fits p lists routed) (reported_routing p lists routed.routed) short in
    ap (with_fault Route) (is_given d.netlist p (text_of d.netlist d.placement p lists) lists back)
