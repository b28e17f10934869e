-- What each edge brings of the way to a sink.
use Rattle.std.proofs.Common.{◌≡◌, ℕ, ◌+◌, ◌≤◌, true, ◌&&◌, ◌==◌, not, nat_le, sym, ◌∙◌, arith}
use Rattle.std.proofs.lemmas.Bool.{eqb-true, leb-true, false≢true, and_parts}
use Rattle.routing_problem.specs.node.Kind.{Kind}
use Rattle.routing_problem.specs.node.Kind.TheVariants.{Chanx, Chany}
use Rattle.routing_problem.specs.Fabric.{Fabric, IsFabric}
use Rattle.routing_problem.specs.Wires.{last_of}
use Rattle.routing_problem.specs.Nodes.{node_of, is_wire, span_of}
use Rattle.routing_problem.specs.Edges.{is_edge}
use Rattle.routing_problem.proofs.WiresWithin.{column_within, row_within}
use Rattle.routing_problem.proofs.Joins.{chanx_joins_chanx, chanx_joins_chany, chany_joins_chanx, chany_joins_chany}
use Rattle.wavefront.specs.Boxes.{BoundingBox}
use Rattle.wavefront.specs.kept.Bounds.{steps_within, wires_by_kind}
use Rattle.wavefront.proofs.WiresOver.{next_across, next_along}

module _ (f : Fabric) (ok : IsFabric f) (box : BoundingBox) where
  -- how many wires lead on from one
  abbrev from : Kind → (x y track : ℕ) → ℕ
  from k x y track = wires_by_kind (steps_within f track) k box (span_of f (node_of k x y track))

  rows : (x y t p r s : ℕ) → is_edge f (node_of Chanx x y t) (node_of Chanx p r s) ≡ true → from Chanx x y t ≤ from Chanx p r s + 1
  unfolding is_edge
  rows x y t p r s e =
      let a = and_parts (s == t) _ (sym (chanx_joins_chanx f x y t p r s) ∙ e) in
      let b = and_parts (r == y) _ a.1 in
      let c = and_parts (not (p == x)) _ b.1 in
      let d = and_parts (nat_le p (last_of f f.nx t x + 1)) _ c.1 in
      let track = eqb-true s t a.0 in
      let row = eqb-true r y b.0 in
      let there = row_within f ok t p in
      let low = leb-true _ _ d.0 in
      let high = leb-true _ _ d.1 in
      rw (track, row) (next_along (steps_within f t) _ _ _ (omega (arith, there, low, high)))

  row_column : (x y t p r s : ℕ) → is_edge f (node_of Chanx x y t) (node_of Chany p r s) ≡ true → from Chanx x y t ≤ from Chany p r s + 1
  unfolding is_edge
  row_column x y t p r s e =
      let a = and_parts (s == t) _ (sym (chanx_joins_chany f x y t p r s) ∙ e) in
      let b = and_parts (nat_le x (p + 1) && nat_le p (last_of f f.nx t x)) _ a.1 in
      let c = and_parts (nat_le x (p + 1)) _ b.0 in
      let d = and_parts (nat_le r (y + 1)) _ b.1 in
      let track = eqb-true s t a.0 in
      let there = column_within f ok t r in
      let last = leb-true _ _ d.1 in
      rw track (next_across (steps_within f t) _ _ _ _ (omega (arith, leb-true _ _ c.0, leb-true _ _ c.1)) (omega (arith, there, leb-true _ _ d.0, last)))

  column_row : (x y t p r s : ℕ) → is_edge f (node_of Chany x y t) (node_of Chanx p r s) ≡ true → from Chany x y t ≤ from Chanx p r s + 1
  unfolding is_edge
  column_row x y t p r s e =
      let a = and_parts (s == t) _ (sym (chany_joins_chanx f x y t p r s) ∙ e) in
      let b = and_parts (nat_le y (r + 1) && nat_le r (last_of f f.ny t y)) _ a.1 in
      let c = and_parts (nat_le y (r + 1)) _ b.0 in
      let d = and_parts (nat_le p (x + 1)) _ b.1 in
      let track = eqb-true s t a.0 in
      let there = row_within f ok t p in
      let last = leb-true _ _ d.1 in
      rw track (next_across (steps_within f t) _ _ _ _ (omega (arith, leb-true _ _ c.0, leb-true _ _ c.1)) (omega (arith, there, leb-true _ _ d.0, last)))

  columns : (x y t p r s : ℕ) → is_edge f (node_of Chany x y t) (node_of Chany p r s) ≡ true → from Chany x y t ≤ from Chany p r s + 1
  unfolding is_edge
  columns x y t p r s e =
      let a = and_parts (s == t) _ (sym (chany_joins_chany f x y t p r s) ∙ e) in
      let b = and_parts (p == x) _ a.1 in
      let c = and_parts (not (r == y)) _ b.1 in
      let d = and_parts (nat_le r (last_of f f.ny t y + 1)) _ c.1 in
      let track = eqb-true s t a.0 in
      let column = eqb-true p x b.0 in
      let there = column_within f ok t r in
      let low = leb-true _ _ d.0 in
      let high = leb-true _ _ d.1 in
      rw (track, column) (next_along (steps_within f t) _ _ _ (omega (arith, there, low, high)))

  -- one wire more is one more
  pub wire_step : (j k : Kind) (x y t p r s : ℕ) → is_wire j ≡ true → is_wire k ≡ true → is_edge f (node_of j x y t) (node_of k p r s) ≡ true → from j x y t ≤ from k p r s + 1
  wire_step Chanx Chanx x y t p r s g h e = rows x y t p r s e
  wire_step Chanx Chany x y t p r s g h e = row_column x y t p r s e
  wire_step Chany Chanx x y t p r s g h e = column_row x y t p r s e
  wire_step Chany Chany x y t p r s g h e = columns x y t p r s e
  wire_step Chanx _ x y t p r s g h e = absurd (false≢true h)
  wire_step Chany _ x y t p r s g h e = absurd (false≢true h)
  wire_step _ k x y t p r s g h e = absurd (false≢true g)
