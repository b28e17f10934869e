-- A box around nodes, one by one.
use Rattle.std.proofs.Common.{◌≡◌, ℕ, ◌+◌, ◌<◌, ◌≤◌, List, slice_index, inl, inr, subst, arith}
use Rattle.std.proofs.lemmas.Bool.{cases_lt}
use Rattle.routing_problem.specs.Fabric.{Fabric}
use Rattle.wavefront.specs.Boxes.{BoundingBox, box_around, box_of_node}
use Rattle.wavefront.specs.kept.Bounds.{IsInsideBox}

-- the box is around the nodes from one place to the one before another
abbrev pub IsAround : Fabric → List ℕ → (from until : ℕ) → BoundingBox → Type 0
IsAround f vs from until box = (p : ℕ) → from ≤ p → p < until → IsInsideBox (box_of_node f (slice_index vs p)) box

itself : (a : BoundingBox) → IsInsideBox a a
itself a = record { left = omega arith; right = omega arith; bottom = omega arith; top = omega arith }

of_second : (a b : BoundingBox) → IsInsideBox b (box_around a b)
of_second a b = record { left = omega arith; right = omega arith; bottom = omega arith; top = omega arith }

of_first : (inner a b : BoundingBox) → IsInsideBox inner a → IsInsideBox inner (box_around a b)
of_first inner a b h = record { left = omega (arith, h.left); right = omega (arith, h.right); bottom = omega (arith, h.bottom); top = omega (arith, h.top) }

module _ (f : Fabric) (vs : List ℕ) (from : ℕ) where
  pub around_first : (box : BoundingBox) → box ≡ box_of_node f (slice_index vs from) → IsAround f vs from (from + 1) box
  around_first box is p low high = let e : from ≡ p = omega (arith, low, high) in subst (λ k. IsInsideBox (box_of_node f (slice_index vs k)) box) e (rw is (itself (box_of_node f (slice_index vs from))))

  pub around_more : (i : ℕ) (old new : BoundingBox) → IsAround f vs from i old → new ≡ box_around old (box_of_node f (slice_index vs i)) → IsAround f vs from (i + 1) new
  around_more i old new before is p low high = rw is (elim (cases_lt p i) [
    | inl less ↦ of_first (box_of_node f (slice_index vs p)) old (box_of_node f (slice_index vs i)) (before p low less)
    | inr ge ↦ let e : i ≡ p = omega (arith, high, ge) in subst (λ k. IsInsideBox (box_of_node f (slice_index vs k)) (box_around old (box_of_node f (slice_index vs i)))) e (of_second old (box_of_node f (slice_index vs i)))
  ])
