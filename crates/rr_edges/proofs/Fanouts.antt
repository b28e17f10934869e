-- How much a wire leads to.
use Rattle.std.proofs.Common.{◌≡◌, ℕ, ◌+◌, ◌*◌, List, [], ◌∷◌, ◌++◌, length, map, None, sym, subst, ap, ◌∙◌, arith, length-append}
use Rattle.std.specs.List.{flat_map}
use Rattle.std.proofs.lemmas.List.{length-map}
use Rattle.std.proofs.lemmas.List.Concat.{flat_map_single}
use Rattle.smallvec.specs.SmallVec.{SmallVec, HasRoomFor}
use Rattle.rr_edges.specs.declared.fanout.NumberRun.{NumberRun}
use Rattle.rr_edges.specs.declared.fanout.Meeting.{Meeting}
use Rattle.rr_edges.specs.declared.fanout.Taps.{Taps}
use Rattle.channel_tables.specs.declared.axis.Axis.{Axis}
use Rattle.channel_tables.specs.declared.axis.Axis.TheVariants.{Row, Column}
use Rattle.rr_edges.specs.declared.fanout.Fanout.{Fanout}
use Rattle.channel_tables.specs.Fabric.{numbers_below}
use Rattle.rr_edges.specs.kept.Fanouts.{of_option, numbers_of, runs_of, number_in, run_list, by_run, by_place, pins_at, row_list, column_list, list_along, fanout_list}
use Rattle.channel_tables.proofs.Ranges.{length_below}
use Rattle.channel_tables.proofs.Lengths.{length_even}

-- ---- the wires that meet at corners
pub by_place_one : (m : Meeting) (count : ℕ) → m.two ≡ None → by_place m count ≡ run_list count m.one
by_place_one m count e =
    ap (λ o. flat_map (λ k. map (number_in k) (m.one ∷ of_option o)) (numbers_below count)) e ∙ flat_map_single (λ k. number_in k m.one) (numbers_below count)

by_place_length : (m : Meeting) (count : ℕ) → length (by_place m count) ≡ count * length (runs_of m)
by_place_length m count = length_even (λ k. map (number_in k) (runs_of m)) (length (runs_of m)) count count (λ k _. length-map (runs_of m) (number_in k)) (omega arith)

by_run_length : (m : Meeting) (count : ℕ) → length (by_run m count) ≡ count * length (runs_of m)
by_run_length m count = of_runs (runs_of m)
  where
    of_runs : (rs : List NumberRun) → length (flat_map (run_list count) rs) ≡ count * length rs
    of_runs [] = omega arith
    of_runs (r ∷ rs) =
        omega (arith, length-append (run_list count r) (flat_map (run_list count) rs), length_below (λ k. number_in k r) count, of_runs rs)

-- ---- the pins that tap a wire
pins_length : (t : Taps) (k : ℕ) → length (pins_at t k) ≡ length t.places.now
pins_length t k = length-map t.places.now (λ j. t.start + k * t.step + j)

-- ---- all
row_length : (r : Fanout) →
    length (row_list r) ≡ r.places * (length r.low.places.now + length r.high.places.now) + length (numbers_of r.beside) + (r.places + 1) * length (runs_of r.crossing)
unfolding row_list
row_length r =
    let pins = flat_map (λ k. pins_at r.low k ++ pins_at r.high k) (numbers_below r.places) in
    let crossing = by_place r.crossing (r.places + 1) in
    let each = length_even (λ k. pins_at r.low k ++ pins_at r.high k) (length r.low.places.now + length r.high.places.now) r.places r.places
    (λ k _. omega (arith, length-append (pins_at r.low k) (pins_at r.high k), pins_length r.low k, pins_length r.high k)) (omega arith) in
    omega (arith, length-append pins (numbers_of r.beside ++ crossing), length-append (numbers_of r.beside) crossing, each, by_place_length r.crossing (r.places + 1))

column_length : (c : Fanout) →
    length (column_list c) ≡ c.places * (length c.low.places.now + length c.high.places.now) + length (numbers_of c.beside) + (c.places + 1) * length (runs_of c.crossing)
unfolding column_list
column_length c =
    let before = flat_map (pins_at c.low) (numbers_below c.places) in
    let behind = flat_map (pins_at c.high) (numbers_below c.places) in
    let crossing = by_run c.crossing (c.places + 1) in
    omega (
      arith,
      length-append (before ++ behind) (crossing ++ numbers_of c.beside),
      length-append before behind,
      length-append crossing (numbers_of c.beside),
      length_even (pins_at c.low) (length c.low.places.now) c.places c.places (λ k _. pins_length c.low k) (omega arith),
      length_even (pins_at c.high) (length c.high.places.now) c.places c.places (λ k _. pins_length c.high k) (omega arith),
      by_run_length c.crossing (c.places + 1),
    )

length_along : (axis : Axis) (x : Fanout) →
    length (list_along axis x) ≡ x.places * (length x.low.places.now + length x.high.places.now) + length (numbers_of x.beside) + (x.places + 1) * length (runs_of x.crossing)
length_along Row x = row_length x
length_along Column x = column_length x

pub fanout_length : (x : Fanout) →
    length (fanout_list x) ≡ x.places * (length x.low.places.now + length x.high.places.now) + length (numbers_of x.beside) + (x.places + 1) * length (runs_of x.crossing)
fanout_length x = length_along x.axis x

-- room for what a row's wire leads to, where its places are counted otherwise
pub row_room : (r : Fanout) (n : ℕ) → n ≡ r.places → (a : SmallVec ℕ) → HasRoomFor a (length (row_list r))
    → HasRoomFor a (length (flat_map (λ k. pins_at r.low k ++ pins_at r.high k) (numbers_below n) ++ (numbers_of r.beside ++ by_place r.crossing (n + 1))))
unfolding row_list
row_room r n e a room = subst (λ m. HasRoomFor a (length (flat_map (λ k. pins_at r.low k ++ pins_at r.high k) (numbers_below m) ++ (numbers_of r.beside ++ by_place r.crossing (m + 1))))) (sym e) room
