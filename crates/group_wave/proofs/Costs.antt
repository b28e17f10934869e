-- Costs as they are kept, and the costs of labels.
use Rattle.std.proofs.Common.{◌≡◌, ℕ, ◌<◌, ◌≤◌, ◌↔◌, Bool, true, false, inl, inr, refl, sym, ap, ◌∙◌, arith}
use Rattle.std.specs.Prelude.{IsTrue, nat_le}
use Rattle.std.proofs.lemmas.Bool.{cases_lt, false≢true}
use Rattle.std.proofs.lemmas.Bool.Decides.{nat_tests}
use Rattle.group_wave.specs.declared.labels.LabelRow.{LabelRow}
use Rattle.group_wave.specs.kept.Labels.{label_of}
use Rattle.group_wave.specs.kept.WaveState.{FAR, NodeLabel}
use Rattle.group_wave.proofs.LabelRows.{reached_is}

-- a test that fails
pub no_less : (r : Bool) (a b : ℕ) → (IsTrue r ↔ (a < b)) → r ≡ false → b ≤ a
no_less r a b is off = elim (cases_lt a b) [
  | inl less ↦ absurd (false≢true (sym off ∙ is.1 less))
  | inr more ↦ more
]

module _ {K : Type 0} (value : K → ℕ) (greatest : ℕ) (row : LabelRow K) (label : NodeLabel) (is : label_of value greatest row ≡ label) where
  -- a row below the greatest has the label's cost
  pub cost_below : value row.cost < greatest → label.cost ≡ value row.cost
  cost_below below = sym (ap (λ l. l.cost) is) ∙ ap (λ l. l.cost) (reached_is value greatest row below)

  -- so it has a cost below the greatest where the label has
  pub cost_same : (cost : ℕ) → cost < greatest → greatest ≤ FAR → (value row.cost ≡ cost) ↔ (label.cost ≡ cost)
  cost_same cost fits narrow = elim (cases_lt (value row.cost) greatest) [
    | inl below ↦ let same = cost_below below in (λ e. omega (arith, same, e), λ e. omega (arith, same, e))
    | inr most ↦
        let all : nat_le greatest (value row.cost) ≡ true = grind (arith, nat_tests) in
        let far : (label_of value greatest row).cost ≡ FAR = rw all refl in
        let same = ap (λ l. l.cost) is in
        (λ e. absurd (omega (arith, e, most, fits)), λ e. absurd (omega (arith, e, same, far, fits, narrow)))
  ]
