-- What a run of `nets` answers and prints (ours).
use Rattle.std.specs.Prelude.{◌≡◌, ℕ, List, [], ◌∷◌, Result, Ok}
use Rattle.run_inputs.specs.declared.fault.AppFault.{AppFault}
use Rattle.run_inputs.specs.Inputs.{PlacedDesign}
use Rattle.run_inputs.specs.Runs.{StopsOrGoesOn, PrintsText, TakesNothing, Writing}
use Rattle.nets_run.specs.Nets.{nets_text}

-- the text is printed; if it is empty, nothing is written
abbrev pub PrintsLines : (out : Writing) → (text : List ℕ) → Result (Unit {0}) AppFault → Type 0
PrintsLines out [] result = (result ≡ Ok tt) × TakesNothing out
PrintsLines out (byte ∷ bytes) result = PrintsText out (byte ∷ bytes) tt result

-- A run of `nets`, memory aside: if its files say a placed design, the lines of its nets are
-- printed.
abbrev pub RunsNets : (out : Writing) → Result PlacedDesign AppFault → Result (Unit {0}) AppFault → Type 0
RunsNets out = StopsOrGoesOn (TakesNothing out) (λ d. PrintsLines out (nets_text d.netlist d.problem))
