-- How a run ends that prints lines, if there are any.
use Rattle.std.proofs.Common.{◌≡◌, ℕ, ◌<◌, List, [], ◌∷◌, length, Ok, refl, sym, subst, arith}
use Rattle.std.specs.Prelude.{Result}
use Rattle.run_inputs.specs.declared.fault.AppFault.{AppFault}
use Rattle.run_inputs.specs.Runs.{PrintsText, TakesNothing, Writing}
use Rattle.nets_run.specs.NetsRun.{PrintsLines}

pub nothing_printed : (out : Writing) (text : List ℕ) → text ≡ [] → TakesNothing out → PrintsLines out text (Ok (tt {0}))
nothing_printed out text none nothing =
    subst (λ (t : List ℕ). PrintsLines out t (Ok (tt {0}))) (sym none) (refl, nothing)

pub something_printed : (out : Writing) (result : Result (Unit {0}) AppFault) (text : List ℕ) → 0 < length text → PrintsText out text (tt {0}) result
    → PrintsLines out text result
something_printed out result [] some printed = absurd (omega (arith, some))
something_printed out result (byte ∷ bytes) some printed = printed
