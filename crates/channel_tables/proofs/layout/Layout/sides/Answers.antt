use Rattle.std.proofs.Common.{◌≡◌, ℕ, Bool, List, subst, ◌∙◌}
use Rattle.channel_tables.specs.declared.sides.Tapping.{Tapping}
use Rattle.channel_tables.specs.Picks.{picks}
use Rattle.channel_tables.specs.Sides.{tapping_pins, tapping_pads}
use Rattle.channel_tables.specs.kept.TappingTables.{IsTapping}
use Rattle.channel_tables.proofs.layout.Layout.sides.Goals as goal

along : (test : ℕ → ℕ → Bool) (tracks : ℕ) (t : Tapping) {xs ys : List ℕ} → xs ≡ ys
    → IsTapping (λ k. picks (test k) 0 xs) tracks t → IsTapping (λ k. picks (test k) 0 ys) tracks t
along test tracks t e = subst (λ zs. IsTapping (λ k. picks (test k) 0 zs) tracks t) e

pub returns : goal.returns
unfolding tapping_pins tapping_pads
returns c =
    record {
      top = along _ _ _ (c.deref.ensures.value ∙ c.in_ok-pins.ensures.pins) c.in_ok-tapping.ensures;
      bottom = along _ _ _ (c.deref-2.ensures.value ∙ c.in_ok-pins.ensures.pins) c.in_ok-tapping-2.ensures;
      right = along _ _ _ (c.deref-3.ensures.value ∙ c.in_ok-pins.ensures.pins) c.in_ok-tapping-3.ensures;
      left = along _ _ _ (c.deref-4.ensures.value ∙ c.in_ok-pins.ensures.pins) c.in_ok-tapping-4.ensures;
      pads = along _ _ _ (c.deref-5.ensures.value ∙ c.in_ok-pads.ensures.pads) c.in_ok-tapping-5.ensures;
    }
