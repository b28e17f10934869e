-- A routing of a design that is judged, stage by stage.
use Rattle.std.proofs.Common.{◌≡◌, List, Option, Ok, Err, refl}
use Rattle.route_tree.specs.Paths.{Pair}
use Rattle.run_inputs.specs.declared.fault.AppFault.{AppFault}
use Rattle.run_inputs.specs.Runs.{Input}
use Rattle.run_inputs.specs.Inputs.{PlacedDesign, routing_in}
use Rattle.runs.specs.CheckRun.{judged_on}

module _ (d : PlacedDesign) (route : Input) where
  pub routing_fails : (e : AppFault) → routing_in d.netlist d.problem route ≡ Err e → judged_on d route ≡ Err e
  unfolding judged_on
  routing_fails e h = rw h refl

  pub routing_goes : (routing : List (Option (List Pair))) → routing_in d.netlist d.problem route ≡ Ok routing
      → judged_on d route ≡ Ok (record { design = d; routing = routing })
  unfolding judged_on
  routing_goes routing h = rw h refl
