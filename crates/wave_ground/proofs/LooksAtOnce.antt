-- Bounds to boxes that are stored side by side.
use Rattle.std.proofs.Common.{◌≡◌, ◌∙◌, ℕ, ◌+◌, ◌-◌, ◌*◌, ◌/◌, ◌<◌, ◌≤◌, List, true, false, ap, cond, arith, inl, inr, slice_index, subst, sym}
use Rattle.std.proofs.lemmas.Bool.{cases_lt}
use Rattle.std.proofs.lemmas.Nat.{mul-le}
use Rattle.std.proofs.Math.Nat.{le-div_iff_mul-le, div-mul-le_self, mul-le-mul_left, mul-le-mul_right}
use Rattle.routing_problem.specs.node.Kind.TheVariants.{Chanx, Chany}
use Rattle.wavefront.specs.Boxes.{BoundingBox}
use Rattle.wavefront.specs.kept.Bounds.{WireShape, gap, wires_for, wires_over, wires_to}
use Rattle.wavefront.proofs.WiresOver.{for_more}
use Rattle.wave_ground.specs.declared.eight_boxes.EightBoxes.{EightBoxes}
use Rattle.wave_ground.specs.declared.eight_boxes.Outlook.{Outlook}
use Rattle.wave_ground.specs.declared.eight_boxes.BoxSides.{BoxSides}
use Rattle.wave_ground.specs.kept.EightBoxes.{IsOutlook, IsShare, KeepsBox, columns_of, cut, gap_at, gap_beside, rows_of}

-- the product with a rounded share is at most the quotient
pub shared : (steps share low places : ℕ) → IsShare steps share → low ≤ places + steps → low < 512 → low * share / 65536 ≤ wires_over steps places
unfolding wires_over
shared steps share low places is up few =
    (le-div_iff_mul-le (omega arith)).1 (at_most (low * share / 65536) (div-mul-le_self (low * share) 65536))
  where
    at_most : (q : ℕ) → q * 65536 ≤ low * share → q * (steps + 1) ≤ places + steps
    at_most q le = elim (cases_lt low (q * (steps + 1))) [
      | inl more ↦
          let a : q * 65536 * (steps + 1) ≤ low * share * (steps + 1) = mul-le-mul_right (steps + 1) le in
          let b : low * (share * (steps + 1)) ≤ low * (65536 + (steps + 1)) = mul-le-mul_left low is.fits in
          let d : low * (steps + 1) ≤ 511 * 128 = mul-le low (steps + 1) 511 128 (omega (arith, few)) (let n = is.few in omega (arith, n)) in
          absurd (omega (arith, a, b, d, more))
      | inr fits ↦ omega (arith, up, fits)
    ]

-- a bound for shorter distances is one for greater distances
pub nearer : (steps along across far beyond wires : ℕ) → along ≤ far → across ≤ beyond → wires ≤ wires_for steps along across → wires ≤ wires_for steps far beyond
nearer steps along across far beyond wires up over low = let more = for_more steps along across far beyond up over in omega (arith, low, more)

-- the distance of a wire, by the numbers that are kept
seen_at : (lows highs : List ℕ) (lane low high first last keptFirst keptLast : ℕ) → slice_index lows lane ≡ cut low → slice_index highs lane ≡ cut high → keptFirst ≡ cut first → keptLast ≡ cut last → gap (slice_index lows lane) (slice_index highs lane) keptFirst keptLast ≤ gap low high first last
seen_at lows highs lane low high first last keptFirst keptLast l h f e = omega (arith, l, h, f, e)

seen_beside : (lows highs : List ℕ) (lane low high first last keptFirst keptLast : ℕ) → slice_index lows lane ≡ cut low → slice_index highs lane ≡ cut high → keptFirst ≡ cut first → keptLast ≡ cut last → gap (slice_index lows lane - 1) (slice_index highs lane) keptFirst keptLast ≤ gap (low - 1) high first last
seen_beside lows highs lane low high first last keptFirst keptLast l h f e = omega (arith, l, h, f, e)

module _ (o : Outlook) (boxes : EightBoxes) (wire : WireShape) (lane : ℕ) (place : BoundingBox) (wires : ℕ) (is : IsOutlook o wire) (keeps : KeepsBox boxes lane place) where
  column_kept : o.is_column ≡ true → wires ≤ wires_for o.steps (gap_at (rows_of o boxes) lane) (gap_beside (columns_of o boxes) lane) → wires ≤ wires_to place wire
  column_kept column low =
      let kind : wire.kind ≡ Chany = is.kind ∙ ap (λ c. cond c Chany Chanx) column in
      rw (kind, sym is.steps) (nearer o.steps _ _ _ _ wires
      (seen_at boxes.bottom boxes.top lane place.bottom place.top wire.span.y1 wire.span.y2 o.y1 o.y2 keeps.bottom keeps.top is.y1 is.y2)
      (seen_beside boxes.left boxes.right lane place.left place.right wire.span.x1 wire.span.x2 o.x1 o.x2 keeps.left keeps.right is.x1 is.x2) low)

  row_kept : o.is_column ≡ false → wires ≤ wires_for o.steps (gap_at (columns_of o boxes) lane) (gap_beside (rows_of o boxes) lane) → wires ≤ wires_to place wire
  row_kept row low =
      let kind : wire.kind ≡ Chanx = is.kind ∙ ap (λ c. cond c Chany Chanx) row in
      rw (kind, sym is.steps) (nearer o.steps _ _ _ _ wires
      (seen_at boxes.left boxes.right lane place.left place.right wire.span.x1 wire.span.x2 o.x1 o.x2 keeps.left keeps.right is.x1 is.x2)
      (seen_beside boxes.bottom boxes.top lane place.bottom place.top wire.span.y1 wire.span.y2 o.y1 o.y2 keeps.bottom keeps.top is.y1 is.y2) low)

  module _ (columns rows : BoxSides) (steps : ℕ) (c : columns ≡ columns_of o boxes) (r : rows ≡ rows_of o boxes) (s : o.steps ≡ steps) where
    -- a bound for a wire of a column, and for one of a row
    pub column_seen : o.is_column ≡ true → wires ≤ wires_for steps (gap_at rows lane) (gap_beside columns lane) → wires ≤ wires_to place wire
    column_seen column low =
        let by_columns = subst (λ sides. wires ≤ wires_for steps (gap_at rows lane) (gap_beside sides lane)) c low in
        let by_rows = subst (λ sides. wires ≤ wires_for steps (gap_at sides lane) (gap_beside (columns_of o boxes) lane)) r by_columns in
        column_kept column (subst (λ n. wires ≤ wires_for n (gap_at (rows_of o boxes) lane) (gap_beside (columns_of o boxes) lane)) (sym s) by_rows)

    pub row_seen : o.is_column ≡ false → wires ≤ wires_for steps (gap_at columns lane) (gap_beside rows lane) → wires ≤ wires_to place wire
    row_seen row low =
        let by_columns = subst (λ sides. wires ≤ wires_for steps (gap_at sides lane) (gap_beside rows lane)) c low in
        let by_rows = subst (λ sides. wires ≤ wires_for steps (gap_at (columns_of o boxes) lane) (gap_beside sides lane)) r by_columns in
        row_kept row (subst (λ n. wires ≤ wires_for n (gap_at (columns_of o boxes) lane) (gap_beside (rows_of o boxes) lane)) (sym s) by_rows)
