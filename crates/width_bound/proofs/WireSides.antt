-- The sides of a cut: a wire that runs through no border place lies on one side, switches between
-- such wires stay on it, and the pins that tap such a wire are reached there.
use Rattle.std.proofs.Common.{◌≡◌, ℕ, ◌+◌, ◌-◌, ◌≤◌, ◌⊎◌, zero, suc, Bool, true, false, inl, inr, refl, sym, ap, ◌∙◌, subst, arith}
use Rattle.std.specs.Prelude.{◌==◌, ◌&&◌, not, nat_le}
use Rattle.std.specs.List.{list_any}
use Rattle.std.proofs.lemmas.Bool.{and_from, and_parts, both_ways, cases_lt, eqb-true, eq-eqb, le-leb, leb-true, not-false, not-true, or_cases, or_left, or_parts, or_right}
use Rattle.rr_graph.specs.node.Kind.{Kind}
use Rattle.rr_graph.specs.node.Kind.TheVariants.{Source, Sink, Opin, Ipin, Chanx, Chany}
use Rattle.rr_graph.specs.node.Node.{Node}
use Rattle.rr_graph.specs.Fabric.{Fabric}
use Rattle.rr_graph.specs.Wires.{Place, runs_by, runs_through, steps_of, last_of}
use Rattle.rr_graph.specs.Pins.{channels_beside, is_global_pin, taps}
use Rattle.rr_graph.specs.Nodes.{is_same, node_of}
use Rattle.rr_graph.specs.Edges.{Corner, corners_of, is_same_corner, touches, joins}
use Rattle.rr_edges.proofs.Corners.{above_touches, right_touches}
use Rattle.width_bound.specs.Cuts.{Cut, has_corner, has_place, high_end, is_beside_inner, is_beside_outer, is_border, is_inner, is_outer, low_end, low_end_by, share_side}
use Rattle.width_bound.proofs.Lists.{any_at, any_found}

-- what does not change from one number to the next stays
along : (g : ℕ → Bool) (a k : ℕ) → ((x : ℕ) → a ≤ x → x ≤ a + k → g (x - 1) ≡ g x) → (j : ℕ) → j ≤ k → g (a + j) ≡ g (a - 1)
along g a k step zero l =
    let e : a + 0 ≡ a = omega arith in
    ap g e ∙ sym (step a (omega arith) (omega arith))
along g a k step (suc j) l =
    let e : a + suc j - 1 ≡ a + j = omega arith in
    sym (step (a + suc j) (omega arith) (omega arith)) ∙ ap g e ∙ along g a k step j (omega arith)

module _ (f : Fabric) (cut : Cut) where
  -- ---- one place
  abbrev IsClear : Place → Type 0
  IsClear p = ((has_corner cut (low_end p) ≡ true) × (has_corner cut (high_end p) ≡ true) × (is_inner cut p ≡ true))
      ⊎ ((has_corner cut (low_end p) ≡ false) × (has_corner cut (high_end p) ≡ false) × (is_outer cut p ≡ true))

  clear : (p : Place) → is_border cut p ≡ false → IsClear p
  unfolding is_border is_inner is_outer
  clear p e = elim (or_cases _ _ (not-false _ e)) [
    | inl inner ↦ (
        let both = and_parts (not (has_place cut p)) _ inner in
        let ends = and_parts (has_corner cut (low_end p)) (has_corner cut (high_end p)) both.1 in
        inl (ends.0, ends.1, inner))
    | inr outer ↦ (
        let both = and_parts (not (has_place cut p)) _ outer in
        let ends = or_parts (has_corner cut (low_end p)) (has_corner cut (high_end p)) (not-true _ both.1) in
        inr (ends.0, ends.1, outer))
  ]

  same_ends : (p : Place) → is_border cut p ≡ false → has_corner cut (low_end p) ≡ has_corner cut (high_end p)
  same_ends p e = elim (clear p e) [
    | inl inner ↦ inner.0 ∙ sym inner.1
    | inr outer ↦ outer.0 ∙ sym outer.1
  ]

  -- ---- a wire that keeps off the border
  abbrev pub KeepsOff : Node → Type 0
  KeepsOff n = (p : Place) → runs_through f n p ≡ true → is_border cut p ≡ false

  -- the side on which a wire begins: the region, or what is outside
  abbrev pub side_of : Node → Bool
  side_of n = has_corner cut (low_end_by n.kind n.x n.y)

  row_side : (a row t : ℕ) → KeepsOff (node_of Chanx a row t) → (x : ℕ) → a ≤ x + 1 → x ≤ last_of f f.nx t a → has_corner cut (x, row) ≡ has_corner cut (a - 1, row)
  unfolding runs_through
  row_side a row t off x low high =
      let g : ℕ → Bool = λ i. has_corner cut (i, row) in
      let step : (q : ℕ) → a ≤ q → q ≤ a + steps_of f f.nx t a → g (q - 1) ≡ g q = λ q from upto.
      same_ends (Chanx, q, row) (off (Chanx, q, row) (and_from (row == row) _ (eq-eqb row row refl) (and_from (nat_le a q) (nat_le q (last_of f f.nx t a)) (le-leb a q from) (le-leb q (last_of f f.nx t a) upto)))) in
      elim (cases_lt x a) [
        | inl before ↦ ap g (omega arith)
        | inr from ↦ (
            let e : x ≡ a + (x - a) = omega arith in
            ap g e ∙ along g a (steps_of f f.nx t a) step (x - a) (omega arith))
      ]

  column_side : (column a t : ℕ) → KeepsOff (node_of Chany column a t) → (y : ℕ) → a ≤ y + 1 → y ≤ last_of f f.ny t a → has_corner cut (column, y) ≡ has_corner cut (column, a - 1)
  unfolding runs_through
  column_side column a t off y low high =
      let g : ℕ → Bool = λ i. has_corner cut (column, i) in
      let step : (q : ℕ) → a ≤ q → q ≤ a + steps_of f f.ny t a → g (q - 1) ≡ g q = λ q from upto.
      same_ends (Chany, column, q) (off (Chany, column, q) (and_from (column == column) _ (eq-eqb column column refl) (and_from (nat_le a q) (nat_le q (last_of f f.ny t a)) (le-leb a q from) (le-leb q (last_of f f.ny t a) upto)))) in
      elim (cases_lt y a) [
        | inl before ↦ ap g (omega arith)
        | inr from ↦ (
            let e : y ≡ a + (y - a) = omega arith in
            ap g e ∙ along g a (steps_of f f.ny t a) step (y - a) (omega arith))
      ]

  -- each corner that it touches is on its side
  touched : (k : Kind) (x y t : ℕ) → KeepsOff (node_of k x y t) → (c : Corner) → touches f (node_of k x y t) c ≡ true → has_corner cut c ≡ side_of (node_of k x y t)
  unfolding touches corners_of
  touched Source x y t off c e = absurd (both_ways false refl e)
  touched Sink x y t off c e = absurd (both_ways false refl e)
  touched Opin x y t off c e = absurd (both_ways false refl e)
  touched Ipin x y t off c e = absurd (both_ways false refl e)
  touched Chanx x y t off c e =
      let parts = and_parts (c.1 == y) _ (sym (above_touches c.0 c.1 y x (steps_of f f.nx t x)) ∙ e) in
      let within = and_parts (nat_le x (c.0 + 1)) _ parts.1 in
      ap (λ row. has_corner cut (c.0, row)) (eqb-true c.1 y parts.0) ∙ row_side x y t off c.0 (leb-true x (c.0 + 1) within.0) (leb-true c.0 (last_of f f.nx t x) within.1)
  touched Chany x y t off c e =
      let parts = and_parts (c.0 == x) _ (sym (right_touches c.0 c.1 x y (steps_of f f.ny t y)) ∙ e) in
      let within = and_parts (nat_le y (c.1 + 1)) _ parts.1 in
      ap (λ column. has_corner cut (column, c.1)) (eqb-true c.0 x parts.0) ∙ column_side x y t off c.1 (leb-true y (c.1 + 1) within.0) (leb-true c.1 (last_of f f.ny t y) within.1)

  -- ---- switches stay on a side
  same_corner_refl : (c : Corner) → is_same_corner c c ≡ true
  same_corner_refl c = and_from (c.0 == c.0) (c.1 == c.1) (eq-eqb c.0 c.0 refl) (eq-eqb c.1 c.1 refl)

  pub joined_side : (a b : Node) → joins f a b ≡ true → KeepsOff a → KeepsOff b → side_of a ≡ side_of b
  unfolding joins touches
  joined_side a b e off_a off_b =
      let parts = and_parts (not (is_same a b) && a.number == b.number) _ e in
      let common = any_found (touches f b) (corners_of f a) parts.1 in
      let c = common.0 in
      sym (touched a.kind a.x a.y a.number off_a c (any_at (is_same_corner c) (corners_of f a) c common.1 (same_corner_refl c)))
      ∙ touched b.kind b.x b.y b.number off_b c common.2

  -- ---- pins that tap a wire are reached on its side
  -- the places through which it runs end on its side
  through : (k : Kind) (x y t : ℕ) → KeepsOff (node_of k x y t) → (p : Place) → runs_through f (node_of k x y t) p ≡ true → has_corner cut (high_end p) ≡ side_of (node_of k x y t)
  unfolding runs_through
  through k x y t off p e = by_kinds k p.0 off e
    where
      by_kinds : (j i : Kind) → KeepsOff (node_of j x y t) → runs_by j i f (node_of j x y t) p.1 p.2 ≡ true → has_corner cut (high_end p) ≡ side_of (node_of j x y t)
      by_kinds Chanx Chanx o h =
          let parts = and_parts (y == p.2) _ h in
          let within = and_parts (nat_le x p.1) _ parts.1 in
          ap (λ row. has_corner cut (p.1, row)) (sym (eqb-true y p.2 parts.0)) ∙ row_side x y t o p.1 (let l = leb-true x p.1 within.0 in omega arith) (leb-true p.1 (last_of f f.nx t x) within.1)
      by_kinds Chany Chany o h =
          let parts = and_parts (x == p.1) _ h in
          let within = and_parts (nat_le y p.2) _ parts.1 in
          ap (λ column. has_corner cut (column, p.2)) (sym (eqb-true x p.1 parts.0)) ∙ column_side x y t o p.2 (let l = leb-true y p.2 within.0 in omega arith) (leb-true p.2 (last_of f f.ny t y) within.1)
      by_kinds _ _ o h = absurd (both_ways false refl h)

  -- the pin is reached in the region, or outside
  abbrev pub is_reached : Bool → Node → Bool
  is_reached true pin = is_beside_inner f cut pin
  is_reached false pin = is_beside_outer f cut pin

  pub tapped_side : (pin w : Node) → taps f pin w ≡ true → KeepsOff w → is_reached (side_of w) pin ≡ true
  unfolding taps is_beside_inner is_beside_outer
  tapped_side pin w e off =
      let parts = and_parts (not (is_global_pin f pin)) _ e in
      let beside = and_parts (list_any (runs_through f w) (channels_beside f pin)) _ parts.1 in
      let place = any_found (runs_through f w) (channels_beside f pin) beside.0 in
      let p = place.0 in
      let side = through w.kind w.x w.y w.number off p place.2 in
      elim (clear p (off p place.2)) [
        | inl inner ↦ subst (λ b. is_reached b pin ≡ true) (sym inner.1 ∙ side) (and_from (not (is_global_pin f pin)) _ parts.0 (any_at (is_inner cut) (channels_beside f pin) p place.1 inner.2))
        | inr outer ↦ subst (λ b. is_reached b pin ≡ true) (sym outer.1 ∙ side) (and_from (not (is_global_pin f pin)) _ parts.0 (any_at (is_outer cut) (channels_beside f pin) p place.1 outer.2))
      ]

  -- two pins that are reached on one side share it
  pub sharing : (side : Bool) (o q : Node) → is_reached side o ≡ true → is_reached side q ≡ true → share_side f cut o q ≡ true
  sharing true o q d e = or_left _ _ (and_from (is_beside_inner f cut o) (is_beside_inner f cut q) d e)
  sharing false o q d e = or_right _ _ (and_from (is_beside_outer f cut o) (is_beside_outer f cut q) d e)
