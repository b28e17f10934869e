-- Where a wire stands from which an input pin is entered.
use Rattle.std.proofs.Common.{◌≡◌, ℕ, ◌+◌, ◌-◌, ◌≤◌, Bool, true, false, ◌&&◌, ◌==◌, not, nat_le, ◌⊎◌, inl, inr, List, ◌++◌, Option, Some, None, arith}
use Rattle.std.specs.Prelude.{slice_get}
use Rattle.std.specs.List.{list_any}
use Rattle.std.proofs.lemmas.Bool.{cases_Bool, eqb-true, leb-true, false≢true, and_parts, or_cases}
use Rattle.arch_file.specs.declared.entries.Pin.{Pin}
use Rattle.routing_problem.specs.node.Kind.{Kind}
use Rattle.routing_problem.specs.node.Kind.TheVariants.{Chanx, Chany}
use Rattle.routing_problem.specs.node.Node.{Node}
use Rattle.routing_problem.specs.Fabric.{Fabric, is_block, is_pad}
use Rattle.routing_problem.specs.Nodes.{span_by, span_of}
use Rattle.routing_problem.specs.Wires.{Place, last_of, runs_by, runs_through}
use Rattle.routing_problem.specs.Pins.{belongs, channel_of_pad, channels_beside, channels_of_pin, is_global_pin, taps, when}
use Rattle.wavefront.specs.Boxes.{BoundingBox}
use Rattle.wavefront.specs.kept.Bounds.{gap, wires_by_kind}
use Rattle.wavefront.proofs.WiresOver.{none_left}

any_when : {X : Type 0} (test : X → Bool) (b : Bool) (x : X) (xs : List X) → list_any test (when b x ++ xs) ≡ true → (test x ≡ true) ⊎ (list_any test xs ≡ true)
any_when test true x xs e = or_cases (test x) (list_any test xs) e
any_when test false x xs e = inr e

any_last : {X : Type 0} (test : X → Bool) (b : Bool) (x : X) → list_any test (when b x) ≡ true → test x ≡ true
any_last test true x e = elim (or_cases (test x) false e) [ inl h ↦ h | inr h ↦ absurd (false≢true h) ]
any_last test false x e = absurd (false≢true e)

-- how far a channel's place lies off those beside the box's blocks
abbrev off : Kind → BoundingBox → (x y : ℕ) → ℕ
off Chanx box x y = gap box.left box.right x x + gap (box.bottom - 1) box.top y y
off Chany box x y = gap box.bottom box.top y y + gap (box.left - 1) box.right x x
off _ box x y = 0

module _ (f : Fabric) (steps : ℕ) where
  at_row : (n : Node) (x y : ℕ) → (n.y == y && (nat_le n.x x && nat_le x (last_of f f.nx n.number n.x))) ≡ true → (n.x ≤ x) × (x ≤ last_of f f.nx n.number n.x) × (n.y ≡ y)
  at_row n x y e =
      let a = and_parts (n.y == y) _ e in
      let b = and_parts (nat_le n.x x) _ a.1 in
      (leb-true _ _ b.0, leb-true _ _ b.1, eqb-true n.y y a.0)

  at_column : (n : Node) (x y : ℕ) → (n.x == x && (nat_le n.y y && nat_le y (last_of f f.ny n.number n.y))) ≡ true → (n.y ≤ y) × (y ≤ last_of f f.ny n.number n.y) × (n.x ≡ x)
  at_column n x y e =
      let a = and_parts (n.x == x) _ e in
      let b = and_parts (nat_le n.y y) _ a.1 in
      (leb-true _ _ b.0, leb-true _ _ b.1, eqb-true n.x x a.0)

  -- a wire that runs through a channel's place beside the box stands beside it
  runs_at : (box : BoundingBox) (k c : Kind) (n : Node) (x y : ℕ) → runs_by k c f n x y ≡ true → off c box x y ≡ 0 → wires_by_kind steps k box (span_by k f n) ≡ 0
  runs_at box Chanx Chanx n x y e none = let at = at_row n x y e in none_left steps _ _ (omega (arith, at.0, at.1, at.2, none))
  runs_at box Chany Chany n x y e none = let at = at_column n x y e in none_left steps _ _ (omega (arith, at.0, at.1, at.2, none))
  runs_at box Chanx _ n x y e none = absurd (false≢true e)
  runs_at box Chany _ n x y e none = absurd (false≢true e)
  runs_at box _ _ n x y e none = absurd (false≢true e)

  module _ (box : BoundingBox) (wire : Node) where
    near : (p : Place) → runs_through f wire p ≡ true → off p.0 box p.1 p.2 ≡ 0 → wires_by_kind steps wire.kind box (span_of f wire) ≡ 0
    unfolding runs_through
    near p e none = runs_at box wire.kind p.0 wire p.1 p.2 e none

    module _ (x y : ℕ) (left : box.left ≤ x) (right : x ≤ box.right) (bottom : box.bottom ≤ y) (top : y ≤ box.top) where
      beside_block : (pin : Option Pin) → list_any (runs_through f wire) (channels_of_pin pin x y) ≡ true → wires_by_kind steps wire.kind box (span_of f wire) ≡ 0
      beside_block None e = absurd (false≢true e)
      beside_block (Some p) e = elim (any_when (runs_through f wire) p.sides.top (Chanx, x, y) _ e) [
        | inl here ↦ near (Chanx, x, y) here (omega (arith, left, right, bottom, top))
        | inr e ↦ elim (any_when (runs_through f wire) p.sides.bottom (Chanx, x, y - 1) _ e) [
          | inl here ↦ near (Chanx, x, y - 1) here (omega (arith, left, right, bottom, top))
          | inr e ↦ elim (any_when (runs_through f wire) p.sides.right (Chany, x, y) _ e) [
            | inl here ↦ near (Chany, x, y) here (omega (arith, left, right, bottom, top))
            | inr e ↦ near (Chany, x - 1, y) (any_last (runs_through f wire) p.sides.left (Chany, x - 1, y) e) (omega (arith, left, right, bottom, top))
          ]
        ]
      ]

      beside_pad : is_pad f x y ≡ true → runs_through f wire (channel_of_pad f x y) ≡ true → wires_by_kind steps wire.kind box (span_of f wire) ≡ 0
      beside_pad pad e = elim (cases_Bool (x == 0)) [
        | inl first ↦ let at = eqb-true x 0 first in near (Chany, 0, y) (rw first at e) (omega (arith, at, left, right, bottom, top))
        | inr inner ↦ elim (cases_Bool (x == f.nx + 1)) [
          | inl last ↦ let at = eqb-true x (f.nx + 1) last in near (Chany, f.nx, y) (rw (inner, last) at e) (omega (arith, at, left, right, bottom, top))
          | inr middle ↦ elim (cases_Bool (y == 0)) [
            | inl first ↦ let at = eqb-true y 0 first in near (Chanx, x, 0) (rw (inner, middle, first) at e) (omega (arith, at, left, right, bottom, top))
            | inr above ↦ near (Chanx, x, f.ny) (rw (inner, middle, above) at e) (let at = upper pad inner middle above in omega (arith, at, left, right, bottom, top))
          ]
        ]
      ]
        where
          upper : is_pad f x y ≡ true → (x == 0) ≡ false → (x == f.nx + 1) ≡ false → (y == 0) ≡ false → y ≡ f.ny + 1
          upper pad inner middle above = eqb-true y (f.ny + 1) (and_parts _ _ (rw (inner, middle, above) at pad)).0

      -- an input pin that taps the wire stands beside it
      pub pin_step : (pin : Node) → pin.x ≡ x → pin.y ≡ y → (is_block f x y ≡ false → is_pad f x y ≡ true) → taps f pin wire ≡ true → wires_by_kind steps wire.kind box (span_of f wire) ≡ 0
      unfolding taps channels_beside
      pin_step pin ex ey around e =
          let a = and_parts (not (is_global_pin f pin)) _ e in
          let b = and_parts (list_any (runs_through f wire) (channels_beside f pin)) _ a.1 in
          let places = rw (ex, ey) at b.0 in
          elim (cases_Bool (is_block f x y)) [
            | inl block ↦ beside_block (slice_get f.architecture.pins pin.number) (rw block at places)
            | inr pad ↦ beside_pad (around pad) (elim (or_cases (runs_through f wire (channel_of_pad f x y)) false (rw pad at places)) [ inl h ↦ h | inr h ↦ absurd (false≢true h) ])
          ]

-- the sink of an input pin stands where the pin does
pub sink_step : (f : Fabric) (pin sink : Node) → belongs f pin sink ≡ true → (pin.x ≡ sink.x) × (pin.y ≡ sink.y)
unfolding belongs
sink_step f pin sink e =
    let a = and_parts (pin.x == sink.x && pin.y == sink.y) _ e in
    let b = and_parts (pin.x == sink.x) _ a.0 in
    (eqb-true pin.x sink.x b.0, eqb-true pin.y sink.y b.1)
