-- How a run ends, or goes on, that reads a routing file after the files of a design.
use Rattle.std.proofs.Common.{◌≡◌, ◌≢◌, ℕ, Result, Ok, Err, refl, ◌∙◌}
use Rattle.rr_graph.specs.node.Mode.{Mode}
use Rattle.run_inputs.specs.declared.fault.AppFault.{AppFault}
use Rattle.run_inputs.specs.declared.fault.AppFault.TheVariants.{Memory}
use Rattle.run_inputs.specs.Inputs.{PlacedDesign, after_design, design_in}
use Rattle.run_inputs.specs.Runs.{DesignFiles, Input, Meets, MeetsDesign, Reading, StopsOrGoesOn}
use Rattle.run_inputs.specs.Stages.{NetlistText, design_of, text_in}
use Rattle.vpr_text.specs.Readings.{◌>>=◌}
use Rattle.run_inputs.proofs.Designs.{text_fails, text_goes}
use Rattle.run_inputs.proofs.Stages.{goes_on_by, meets_any, meets_files, meets_so, meets_some, stops}

module _ {X : Type 0} (said : PlacedDesign → Input → Result X AppFault) (width : ℕ) (mode : Mode) (files : DesignFiles) (route : Input) where
  no_design : (e : AppFault) → design_in width mode files ≡ Err e → after_design said width mode files route ≡ Err e
  unfolding after_design
  no_design e h = rw h refl

  some_design : (d : PlacedDesign) → design_in width mode files ≡ Ok d → after_design said width mode files route ≡ said d route
  unfolding after_design
  some_design d h = rw h refl

module _ {X R : Type 0} {arch net place route : Reading} (said : PlacedDesign → Input → Result X AppFault) (goes_on : X → Result R AppFault → Type 0) (width : ℕ) (mode : Mode) where
  -- a fault of the architecture, or of the source of the netlist
  pub ends_at_text : {untouched : Type 0} {e : AppFault} → untouched → e ≢ Memory
      → Meets arch (λ a. Meets net (λ n. e ≢ Memory → text_in a n ≡ Err e))
      → MeetsDesign arch net place (λ files. Meets route (λ r. StopsOrGoesOn untouched goes_on (after_design said width mode files r) (Err e)))
  ends_at_text {e} was ne text =
      meets_files text meets_some (λ files h _. meets_any (λ r.
      stops goes_on was (no_design said width mode files r e (text_fails width mode files e (h ne)))))

  -- a fault of the netlist, or of the placement
  pub ends_at_design : {untouched : Type 0} {t : NetlistText} {e : AppFault} → untouched → e ≢ Memory
      → Meets arch (λ a. Meets net (λ n. text_in a n ≡ Ok t)) → Meets place (λ p. e ≢ Memory → design_of width mode t p ≡ Err e)
      → MeetsDesign arch net place (λ files. Meets route (λ r. StopsOrGoesOn untouched goes_on (after_design said width mode files r) (Err e)))
  ends_at_design {t} {e} was ne text design =
      meets_files text design (λ files h k. meets_any (λ r.
      stops goes_on was (no_design said width mode files r e (text_goes width mode files t h ∙ k ne))))

  -- a design
  pub goes_on_after : {t : NetlistText} {d : PlacedDesign} (untouched : Type 0) (result : Result R AppFault)
      → Meets arch (λ a. Meets net (λ n. text_in a n ≡ Ok t)) → Meets place (λ p. design_of width mode t p ≡ Ok d)
      → Meets route (λ r. StopsOrGoesOn untouched goes_on (said d r) result)
      → MeetsDesign arch net place (λ files. Meets route (λ r. StopsOrGoesOn untouched goes_on (after_design said width mode files r) result))
  goes_on_after {t} {d} untouched result text design runs =
      meets_files text design (λ files h k. meets_so runs (λ r.
      goes_on_by untouched goes_on result (some_design said width mode files r d (text_goes width mode files t h ∙ k))))
