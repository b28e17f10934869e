-- What a run of `bound` answers, prints and writes (ours).
use Rattle.std.specs.Prelude.{◌≡◌, ℕ, List, Result, Err, MatchBool}
use Rattle.width_bound.specs.Cuts.{Cut}
use Rattle.run_inputs.specs.declared.fault.AppFault.{AppFault}
use Rattle.run_inputs.specs.declared.fault.AppFault.TheVariants.{Unwritten}
use Rattle.run_inputs.specs.Inputs.{PlacedNetlist}
use Rattle.run_inputs.specs.Runs.{StopsOrGoesOn, PrintsText, TakesAll, TakesFront, TakesNothing, Writing}
use Rattle.bound_run.specs.Bounds.{IsTrueOf, bound_lines, figures_of}
use Rattle.bound_run.specs.CutTexts.{cut_text}

-- The lines are printed to `out`, and then the text is written to `cut`. Unwritten is answered if
-- either failed; if `out` failed, `cut` took nothing.
abbrev pub WritesBound : (cut out : Writing) → (lines text : List ℕ) → Result (Unit {0}) AppFault → Type 0
WritesBound cut out lines text result =
    MatchBool out.failed
    ((result ≡ Err Unwritten) × TakesFront out lines × TakesNothing cut)
    (TakesAll out lines × PrintsText cut text tt result)

-- the lines of some cut of a placed netlist are printed, and what they say is true
abbrev pub PrintsBound : (cut out : Writing) → PlacedNetlist → Result (Unit {0}) AppFault → Type 0
PrintsBound cut out p result =
    (found : Cut)
    × WritesBound cut out (bound_lines (figures_of p found)) (cut_text p found) result
    × IsTrueOf p (figures_of p found)

-- A run of `bound`, memory aside: if its files have a fault, neither sink takes anything; if they
-- say a placed netlist, a bound is printed.
abbrev pub RunsBound : (cut out : Writing) → Result PlacedNetlist AppFault → Result (Unit {0}) AppFault → Type 0
RunsBound cut out = StopsOrGoesOn (TakesNothing cut × TakesNothing out) (PrintsBound cut out)
