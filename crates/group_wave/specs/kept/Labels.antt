-- What the rows of labels mean.
use Rattle.std.specs.Prelude.{◌≡◌, ℕ, ◌<◌, ◌≤◌, ◌⊎◌, nat_le, List, [], ◌∷◌, ◌++◌, All, map, length, get_or, Contains, cond}
use Rattle.std.specs.List.{zip}
use Rattle.group_wave.specs.declared.labels.LabelRow.{LabelRow}
use Rattle.group_wave.specs.declared.labels.WayRow.{WayRow}
use Rattle.group_wave.specs.declared.labels.Labels.TheInside.{Inside}
use Rattle.group_wave.specs.kept.WaveState.{FAR, NodeLabel}

-- a cost as it is kept; the greatest is that of a node that is not reached
abbrev pub widened : (greatest cost : ℕ) → ℕ
widened greatest cost = cond (nat_le greatest cost) FAR cost

-- the price counts only where the node is reached
abbrev pub label_of : {K : Type 0} → (value : K → ℕ) → (greatest : ℕ) → LabelRow K → NodeLabel
label_of value greatest row = record {
  cost = widened greatest (value row.cost);
  parent = row.parent;
  price = cond (nat_le greatest (value row.cost)) 0 (value row.price);
}

-- the label of a row and the price beside it
abbrev pub label_by : {K : Type 0} → (value : K → ℕ) → (greatest : ℕ) → WayRow K × K → NodeLabel
label_by {K} value greatest p = label_of {K = K} value greatest (record { cost = p.0.cost; parent = p.0.parent; price = p.1 })

abbrev pub labels_of : {K : Type 0} → (value : K → ℕ) → (greatest : ℕ) → Inside K → List NodeLabel
labels_of value greatest l = map (label_by value greatest) (zip l.rows.items l.prices.items)

-- the row of a node that is not reached
abbrev pub IsBlank : {K : Type 0} → (value : K → ℕ) → (greatest : ℕ) → WayRow K → Type 0
IsBlank value greatest row = (greatest ≤ value row.cost) × (row.parent ≡ 0)

-- each row is blank, or its node is noted
abbrev pub AreNoted : {K : Type 0} → (value : K → ℕ) → (greatest : ℕ) → List (WayRow K) → List ℕ → Type 0
AreNoted {K} value greatest rows noted = (k : ℕ) (d : WayRow K) → k < length rows → IsBlank value greatest (get_or rows k d) ⊎ Contains noted k

-- a node is noted, unless its row is reached already
abbrev pub Notes : {K : Type 0} → (value : K → ℕ) → (greatest : ℕ) → WayRow K → (node : ℕ) → (old new : List ℕ) → Type 0
Notes value greatest row node old new = ((value row.cost < greatest) × (new ≡ old)) ⊎ (new ≡ old ++ node ∷ [])

-- there is a price for each row
pub record AreLabels {K : Type 0} (value : K → ℕ) (greatest : ℕ) (l : Inside K) : Type 0 where
  pub fits : All (λ row. value row.cost ≤ greatest) l.rows.items
  pub sized : length l.prices.items ≡ length l.rows.items
  pub within : All (λ node. node < length l.rows.items) l.reached.items
  pub noted : AreNoted value greatest l.rows.items l.reached.items
