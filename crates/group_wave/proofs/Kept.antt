-- Costs as they are kept.
use Rattle.std.proofs.Common.{◌≡◌, ℕ, ◌<◌, ◌≤◌, ◌↔◌, true, false, refl, inl, inr, sym, ap, ◌∙◌, arith}
use Rattle.std.specs.Prelude.{min, nat_le}
use Rattle.std.proofs.lemmas.Bool.{cases_lt}
use Rattle.std.proofs.lemmas.Bool.Decides.{nat_tests}
use Rattle.wavefront.specs.Space.{entry_cost}
use Rattle.wave_ground.specs.kept.Grounds.{Ground}
use Rattle.group_wave.specs.declared.labels.LabelRow.{LabelRow}
use Rattle.group_wave.specs.kept.Labels.{label_of, widened}
use Rattle.group_wave.specs.kept.WaveState.{FAR, Wave}
use Rattle.group_wave.specs.kept.Wave.{IsOrigin, IsWave, cost_at, label_at, price_of}
use Rattle.group_wave.proofs.LabelRows.{reached_is}
use Rattle.group_wave.proofs.Lower.{entered_here}

pub exact : (greatest cost : ℕ) → cost < greatest → widened greatest cost ≡ cost
exact greatest cost less = let test : nat_le greatest cost ≡ false = grind (arith, nat_tests) in rw test refl

pub far : (greatest cost : ℕ) → greatest ≤ cost → widened greatest cost ≡ FAR
far greatest cost more = let test : nat_le greatest cost ≡ true = grind (arith, nat_tests) in rw test refl

module _ {K : Type 0} (value : K → ℕ) (greatest : ℕ) (w : Wave) (node : ℕ) (row : LabelRow K) (at : label_of value greatest row ≡ label_at w node) where
  cost_is : widened greatest (value row.cost) ≡ cost_at w node
  cost_is = ap (λ l. l.cost) at

  pub row_exact : value row.cost < greatest → cost_at w node ≡ value row.cost
  row_exact less = sym cost_is ∙ exact greatest (value row.cost) less

  pub row_far : greatest ≤ value row.cost → cost_at w node ≡ FAR
  row_far more = sym cost_is ∙ far greatest (value row.cost) more

  pub row_below : greatest ≤ FAR → (cost : ℕ) → cost < value row.cost → value row.cost ≤ greatest → cost < cost_at w node
  row_below narrow cost less fits = elim (cases_lt (value row.cost) greatest) [
    | inl lt ↦ let e = row_exact lt in omega (arith, e, less)
    | inr ge ↦ let e = row_far ge in omega (arith, e, less, fits, narrow)
  ]

  pub start_is : 0 < greatest → ((value row.cost ≡ 0) × (row.parent ≡ node)) ↔ IsOrigin w node
  start_is some = (
    λ h. (let e = row_exact (let zero = h.0 in omega (arith, zero, some)) in e ∙ h.0, sym (ap (λ l. l.parent) at) ∙ h.1),
    λ o. (
      elim (cases_lt (value row.cost) greatest) [
        | inl lt ↦ sym (row_exact lt) ∙ o.0
        | inr ge ↦ absurd (let e = row_far ge in let zero = o.0 in omega (arith, e, zero))
      ],
      ap (λ l. l.parent) at ∙ o.1,
    ),
  )

  -- where a node is reached, and is no start, its row has its price
  pub row_priced : (g : Ground) → IsWave g w → greatest ≤ FAR → 0 < value row.cost → value row.cost < greatest → value row.price ≡ min (entry_cost g.space node) greatest
  row_priced g wave narrow some below =
      let same = row_exact below in
      let from = entered_here g w wave node (omega (arith, same, below, narrow)) (omega (arith, same, some)) in
      let price : value row.price ≡ price_of w node = ap (λ l. l.price) (sym (reached_is value greatest row below) ∙ at) in
      let paid = from.paid in
      let priced = from.priced in
      omega (arith, price, priced, paid, same, below)
