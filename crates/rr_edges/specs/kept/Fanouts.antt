-- What wires lead to, in numbers that are counted and listed by arithmetic.
use Rattle.std.specs.Prelude.{ℕ, ◌+◌, ◌-◌, ◌*◌, ◌<◌, ◌≤◌, List, [], ◌∷◌, ◌++◌, length, map, if◌then◌else◌, IfSome, Option, Some, None}
use Rattle.std.specs.List.{range_with_len, flat_map}
use Rattle.arch_file.specs.Architecture.{most_pins, longest_side}
use Rattle.rr_edges.specs.declared.fanout.Pair.{Pair}
use Rattle.rr_edges.specs.declared.fanout.NumberRun.{NumberRun}
use Rattle.rr_edges.specs.declared.fanout.Meeting.{Meeting}
use Rattle.rr_edges.specs.declared.fanout.Taps.{Taps}
use Rattle.channel_tables.specs.declared.axis.Axis.{Axis}
use Rattle.channel_tables.specs.declared.axis.Axis.TheVariants.{Row, Column}
use Rattle.rr_edges.specs.declared.fanout.Fanout.{Fanout}
use Rattle.channel_tables.specs.declared.node.Kind.TheVariants.{Chanx, Chany, Ipin}
use Rattle.channel_tables.specs.Fabric.{Fabric, numbers_below, is_between}
use Rattle.channel_tables.specs.Wires.{steps_of, last_of, places_of}
use Rattle.rr_edges.specs.kept.Channels.{wire_along, meeting_of, beside_of}
use Rattle.node_numbers.specs.Numbering.{block_numbers}
use Rattle.channel_tables.specs.Channels.{starting_at, wires_before}
use Rattle.node_numbers.specs.kept.WireIds.{wire_id}
use Rattle.rr_edges.specs.kept.WireSuccessors.{pins_beside}

abbrev pub of_option : {X : Type 0} → Option X → List X
of_option (Some x) = x ∷ []
of_option None = []

abbrev pub numbers_of : Pair → List ℕ
numbers_of p = of_option p.one ++ of_option p.two

abbrev pub runs_of : Meeting → List NumberRun
runs_of m = m.one ∷ of_option m.two

-- the k-th number of a run
abbrev pub number_in : (k : ℕ) → NumberRun → ℕ
number_in k r = r.first + k * r.step

-- the first numbers of a run
abbrev pub run_list : (count : ℕ) → NumberRun → List ℕ
run_list count r = map (λ k. number_in k r) (numbers_below count)

-- one run after the other
abbrev pub by_run : Meeting → (count : ℕ) → List ℕ
by_run m count = flat_map (run_list count) (runs_of m)

-- the first numbers of the runs, then the second ones, and so on
abbrev pub by_place : Meeting → (count : ℕ) → List ℕ
by_place m count = flat_map (λ k. map (number_in k) (runs_of m)) (numbers_below count)

-- the pins at the k-th place beside a wire
abbrev pub pins_at : Taps → (k : ℕ) → List ℕ
pins_at t k = map (λ j. t.start + k * t.step + j) t.places.now

-- what a wire above a row leads to
unfoldable pub row_list : Fanout → List ℕ
row_list r =
    flat_map (λ k. pins_at r.low k ++ pins_at r.high k) (numbers_below r.places) ++ (numbers_of r.beside ++ by_place r.crossing (r.places + 1))

-- what a wire right of a column leads to
unfoldable pub column_list : Fanout → List ℕ
column_list c =
    (flat_map (pins_at c.low) (numbers_below c.places) ++ flat_map (pins_at c.high) (numbers_below c.places))
    ++ (by_run c.crossing (c.places + 1) ++ numbers_of c.beside)

abbrev pub list_along : Axis → Fanout → List ℕ
list_along Row x = row_list x
list_along Column x = column_list x

-- what a wire leads to
abbrev pub fanout_list : Fanout → List ℕ
fanout_list x = list_along x.axis x

-- ---- wires and pins of a device as numbers at even distances
-- by how much the number of a wire that begins at a place grows from one channel along an axis to
-- the next
abbrev pub step_along : Axis → Fabric → (place : ℕ) → ℕ
step_along Row f place = length (starting_at f f.nx place)
step_along Column f place = wires_before f f.ny (f.ny + 1)

-- the wires of a track that begin at a place of a channel along an axis and of those after it
abbrev pub run_along : Axis → Fabric → (track channel place : ℕ) → NumberRun
run_along axis f track channel place = record { first = wire_along axis f track channel place; step = step_along axis f place }

-- how many input pins are at a place of a column, and in a column of blocks
abbrev pub pins_of_row : Fabric → (x : ℕ) → ℕ
pins_of_row f x = if is_between 1 f.nx x then length (block_numbers f Ipin) else f.architecture.io_rat

abbrev pub pins_of_column : Fabric → ℕ
pins_of_column f = 2 * f.architecture.io_rat + f.ny * length (block_numbers f Ipin)

-- what the wire of a track that begins at (x, y) leads to, above a row and right of a column
unfoldable pub row_wire_list : Fabric → (x y track : ℕ) → List ℕ
row_wire_list f x y t =
    flat_map (λ p. pins_beside f (λ s. s.top) p y t ++ pins_beside f (λ s. s.bottom) p (y + 1) t) (places_of f f.nx t x)
    ++ (map (λ q. wire_id f Chanx q y t) (beside_of f f.nx t x (last_of f f.nx t x))
    ++ flat_map (λ c. map (λ q. wire_id f Chany c q t) (meeting_of f f.ny t y)) (range_with_len (x - 1) (steps_of f f.nx t x + 2)))

unfoldable pub column_wire_list : Fabric → (x y track : ℕ) → List ℕ
column_wire_list f x y t =
    (flat_map (λ q. pins_beside f (λ s. s.right) x q t) (places_of f f.ny t y) ++ flat_map (λ q. pins_beside f (λ s. s.left) (x + 1) q t) (places_of f f.ny t y))
    ++ (flat_map (λ q. map (λ r. wire_id f Chanx q r t) (range_with_len (y - 1) (steps_of f f.ny t y + 2))) (meeting_of f f.nx t x)
    ++ map (λ q. wire_id f Chany x q t) (beside_of f f.ny t y (last_of f f.ny t y)))

-- ---- limits that keep the arithmetic small
pub record IsSmallRun (r : NumberRun) : Type 0 where
  pub first : r.first < 33554432
  pub step : r.step ≤ 32768

pub record IsSmallMeeting (m : Meeting) : Type 0 where
  pub one : IsSmallRun m.one
  pub two : IfSome m.two IsSmallRun

pub record IsSmallTaps (t : Taps) : Type 0 where
  pub start : t.start < 33554432
  pub step : t.step ≤ 32768
  pub few : length t.places.now ≤ most_pins

pub record IsSmallFanout (x : Fanout) : Type 0 where
  pub low : IsSmallTaps x.low
  pub high : IsSmallTaps x.high
  pub places : x.places ≤ longest_side
  pub crossing : IsSmallMeeting x.crossing
