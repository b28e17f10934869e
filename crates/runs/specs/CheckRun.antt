-- What a run of `check` answers and prints (ours).
use Rattle.std.specs.Prelude.{ℕ, List, Option, Result, Ok}
use Rattle.rr_graph.specs.node.Mode.{Mode}
use Rattle.route_tree.specs.Paths.{Pair}
use Rattle.route_check.specs.declared.fault.RouteFault.{RouteFault}
use Rattle.run_inputs.specs.declared.fault.AppFault.{AppFault}
use Rattle.run_inputs.specs.Inputs.{PlacedDesign, after_design, routing_in}
use Rattle.run_inputs.specs.Runs.{DesignFiles, StopsOrGoesOn, Input, PrintsText, TakesNothing, Writing}
use Rattle.vpr_text.specs.Readings.{◌>>=◌}
use Rattle.runs.specs.Verdict.{IsVerdict, verdict_text}

-- a routing, and the design that it is meant for
pub record Judged : Type 0 where
  pub design : PlacedDesign
  pub routing : List (Option (List Pair))

unfoldable pub judged_on : PlacedDesign → (route : Input) → Result Judged AppFault
judged_on d route = routing_in d.netlist d.problem route >>= λ routing. Ok (record { design = d; routing = routing })

-- what the files of a design and a routing file say, for a device of this width and mode
abbrev pub judged_in : (width : ℕ) → Mode → DesignFiles → (route : Input) → Result Judged AppFault
judged_in = after_design judged_on

-- the line of the verdict is printed, and the verdict is the answer
abbrev pub PrintsVerdict : Writing → Judged → Result (Option RouteFault) AppFault → Type 0
PrintsVerdict out j result =
    (verdict : Option RouteFault)
    × IsVerdict j.design.problem j.routing verdict
    × PrintsText out (verdict_text j.design.netlist j.design.problem verdict) verdict result

-- A run of `check`, memory aside: if its files say a routing of a problem, there is a verdict on
-- it, and the line of the verdict is printed.
abbrev pub RunsCheck : (out : Writing) → Result Judged AppFault → Result (Option RouteFault) AppFault → Type 0
RunsCheck out = StopsOrGoesOn (TakesNothing out) (PrintsVerdict out)
