-- What a wire leads to, reported as numbers at even distances, are its successors.
use Rattle.std.proofs.Common.{◌≡◌, ℕ, ◌+◌, ◌-◌, ◌*◌, ◌<◌, ◌≤◌, List, ◌++◌, map, Some, refl, ap, ◌∙◌, arith}
use Rattle.std.specs.List.{range_with_len, flat_map}
use Rattle.std.proofs.lemmas.List.Folds.{flat_map-map}
use Rattle.std.proofs.lemmas.Simd.{map-map}
use Rattle.channel_tables.specs.declared.axis.Axis.TheVariants.{Row, Column}
use Rattle.rr_edges.specs.declared.fanout.NumberRun.{NumberRun}
use Rattle.rr_edges.specs.declared.fanout.Fanout.{Fanout}
use Rattle.channel_tables.specs.declared.node.Kind.TheVariants.{Chanx, Chany}
use Rattle.channel_tables.specs.declared.node.Node.{Node}
use Rattle.channel_tables.specs.Fabric.{Fabric, IsFabric, numbers_below}
use Rattle.channel_tables.specs.Wires.{steps_of, last_of}
use Rattle.node_numbers.specs.Nodes.{node_at}
use Rattle.rr_edges.specs.Edges.{successors_of}
use Rattle.rr_edges.specs.kept.Channels.{meeting_of, beside_of}
use Rattle.node_numbers.specs.kept.WireIds.{wire_id}
use Rattle.rr_edges.specs.kept.WireSuccessors.{pins_beside}
use Rattle.rr_edges.specs.kept.Fanouts.{numbers_of, runs_of, number_in, run_list, run_along, pins_at, row_list, column_list, row_wire_list, column_wire_list}
use Rattle.channel_tables.proofs.Windows.{flat_map_same, flat_map_from, map_from, map_agree}
use Rattle.node_numbers.proofs.NumbersAtPlaces.{above_by_row, right_by_column}
use Rattle.rr_edges.proofs.WireSuccessorsChanx.{successors_of_row_wire}
use Rattle.rr_edges.proofs.WireSuccessorsChany.{successors_of_column_wire}

-- ---- one number of a run further
further : (n a b c k s : ℕ) → b ≡ n + a * s → c ≡ n + (a + k) * s → b + k * s ≡ c
further n a b c k s e h = omega (arith, e, h)

module _ (f : Fabric) (t : ℕ) where
  rows_on : (q y k : ℕ) → y + k ≤ f.ny → number_in k (run_along Row f t y q) ≡ wire_id f Chanx q (y + k) t
  rows_on q y k l = further _ y _ _ k _ (above_by_row f q y t (omega arith)) (above_by_row f q (y + k) t l)

  columns_on : (q x k : ℕ) → x + k ≤ f.nx → number_in k (run_along Column f t x q) ≡ wire_id f Chany (x + k) q t
  columns_on q x k l = further _ x _ _ k _ (right_by_column f x q t (omega arith)) (right_by_column f (x + k) q t l)

  crossing_at : (x k : ℕ) (rs : List NumberRun) (qs : List ℕ) → x + k ≤ f.nx → rs ≡ map (run_along Column f t x) qs → map (number_in k) rs ≡ map (λ q. wire_id f Chany (x + k) q t) qs
  crossing_at x k rs qs l e = ap (map (number_in k)) e ∙ map-map (number_in k) (run_along Column f t x) qs ∙ map_agree _ _ (λ q. columns_on q x k l) qs

  run_on : (q y n : ℕ) → ((k : ℕ) → k < n → y + k ≤ f.ny) → run_list n (run_along Row f t y q) ≡ map (λ r. wire_id f Chanx q r t) (range_with_len y n)
  run_on q y n l = map_from _ (λ r. wire_id f Chanx q r t) y n (λ k m. rows_on q y k (l k m))

module _ (f : Fabric) (x y t : ℕ) where
  pub row_list-is :
      (r : Fanout) → 1 ≤ x → last_of f f.nx t x ≤ f.nx
      → ((k : ℕ) → x + k ≤ f.nx → pins_at r.low k ≡ pins_beside f (λ s. s.top) (x + k) y t)
      → ((k : ℕ) → x + k ≤ f.nx → pins_at r.high k ≡ pins_beside f (λ s. s.bottom) (x + k) (y + 1) t)
      → r.places ≡ steps_of f f.nx t x + 1
      → numbers_of r.beside ≡ map (λ q. wire_id f Chanx q y t) (beside_of f f.nx t x (last_of f f.nx t x))
      → runs_of r.crossing ≡ map (run_along Column f t (x - 1)) (meeting_of f f.ny t y)
      → row_list r ≡ row_wire_list f x y t
  unfolding row_list row_wire_list
  row_list-is r some upto under over places beside crossing =
      let steps = steps_of f f.nx t x in
      let count : r.places + 1 ≡ steps + 2 = omega arith in
      let pins : ℕ → List ℕ = λ p. pins_beside f (λ s. s.top) p y t ++ pins_beside f (λ s. s.bottom) p (y + 1) t in
      let meeting = meeting_of f f.ny t y in
      let wires : ℕ → List ℕ = λ c. map (λ q. wire_id f Chany c q t) meeting in
      let one = ap (λ n. flat_map (λ k. pins_at r.low k ++ pins_at r.high k) (numbers_below n)) places
      ∙ flat_map_from (λ k. pins_at r.low k ++ pins_at r.high k) pins x (steps + 1) (λ k l.
      ap (λ ns. ns ++ pins_at r.high k) (under k (omega arith)) ∙ ap (λ ns. pins_beside f (λ s. s.top) (x + k) y t ++ ns) (over k (omega arith))) in
      let two = ap (λ n. flat_map (λ k. map (number_in k) (runs_of r.crossing)) (numbers_below n)) count
      ∙ flat_map_from (λ k. map (number_in k) (runs_of r.crossing)) wires (x - 1) (steps + 2) (λ k l.
      crossing_at f t (x - 1) k (runs_of r.crossing) meeting (omega arith) crossing) in
      rw (one, beside, two) refl

  pub column_list-is :
      (c : Fanout) → 1 ≤ y → last_of f f.ny t y ≤ f.ny
      → ((k : ℕ) → y + k ≤ f.ny → pins_at c.low k ≡ pins_beside f (λ s. s.right) x (y + k) t)
      → ((k : ℕ) → y + k ≤ f.ny → pins_at c.high k ≡ pins_beside f (λ s. s.left) (x + 1) (y + k) t)
      → c.places ≡ steps_of f f.ny t y + 1
      → runs_of c.crossing ≡ map (run_along Row f t (y - 1)) (meeting_of f f.nx t x)
      → numbers_of c.beside ≡ map (λ q. wire_id f Chany x q t) (beside_of f f.ny t y (last_of f f.ny t y))
      → column_list c ≡ column_wire_list f x y t
  unfolding column_list column_wire_list
  column_list-is c some upto before behind places crossing beside =
      let steps = steps_of f f.ny t y in
      let count : c.places + 1 ≡ steps + 2 = omega arith in
      let meeting = meeting_of f f.nx t x in
      let one = ap (λ n. flat_map (pins_at c.low) (numbers_below n)) places
      ∙ flat_map_from (pins_at c.low) (λ q. pins_beside f (λ s. s.right) x q t) y (steps + 1) (λ k l. before k (omega arith)) in
      let two = ap (λ n. flat_map (pins_at c.high) (numbers_below n)) places
      ∙ flat_map_from (pins_at c.high) (λ q. pins_beside f (λ s. s.left) (x + 1) q t) y (steps + 1) (λ k l. behind k (omega arith)) in
      let three = ap (λ n. flat_map (run_list n) (runs_of c.crossing)) count ∙ ap (flat_map (run_list (steps + 2))) crossing
      ∙ flat_map-map (run_list (steps + 2)) (run_along Row f t (y - 1)) meeting
      ∙ flat_map_same _ (λ q. map (λ r. wire_id f Chanx q r t) (range_with_len (y - 1) (steps + 2))) (λ q. run_on f t q (y - 1) (steps + 2) (λ k l. omega arith)) meeting in
      rw (one, two, three, beside) refl

module _ (f : Fabric) (within : IsFabric f) (i : ℕ) (a : Node) (h : node_at f i ≡ Some a) where
  pub row_successors : a.kind ≡ Chanx → successors_of f i ≡ row_wire_list f a.x a.y a.number
  unfolding row_wire_list
  row_successors e = successors_of_row_wire f within i a h e

  pub column_successors : a.kind ≡ Chany → successors_of f i ≡ column_wire_list f a.x a.y a.number
  unfolding column_wire_list
  column_successors e = successors_of_column_wire f within i a h e
