-- The wires and pins that a wire leads to, as numbers at even distances.
use Rattle.std.proofs.Common.{◌≡◌, ℕ, ◌+◌, ◌-◌, ◌*◌, ◌<◌, ◌≤◌, ◌⊎◌, Bool, true, false, length, map, zero, refl, sym, ap, ◌∙◌, arith}
use Rattle.std.specs.Prelude.{◌==◌, if◌then◌else◌}
use Rattle.std.proofs.lemmas.Bool.Decides.{nat_tests}
use Rattle.arch_file.specs.declared.entries.Sides.{Sides}
use Rattle.channel_tables.specs.declared.channel.Wire.{Wire}
use Rattle.rr_edges.specs.declared.fanout.Taps.{Taps}
use Rattle.channel_tables.specs.declared.node.Kind.TheVariants.{Chanx, Chany, Ipin}
use Rattle.channel_tables.specs.Fabric.{Fabric, is_between, is_block}
use Rattle.channel_tables.specs.Wires.{begins, last_of}
use Rattle.channel_tables.specs.Channels.{first_of, starting_at, wires_before, wire_number, wire_at}
use Rattle.channel_tables.specs.Sides.{tapping_pins, tapping_pads}
use Rattle.node_numbers.specs.Starts.{kind_start, place_start}
use Rattle.node_numbers.specs.kept.Columns.{columns_length, rows_length}
use Rattle.node_numbers.specs.Numbering.{block_numbers}
use Rattle.node_numbers.specs.kept.WireIds.{wire_id}
use Rattle.rr_edges.specs.kept.WireSuccessors.{pins_beside}
use Rattle.rr_edges.specs.kept.Fanouts.{pins_of_row, pins_of_column, pins_at}
use Rattle.channel_tables.proofs.TrackWires.{IsBeginning, begins_after, first_of_itself, last_of-is}
use Rattle.node_numbers.proofs.PlaceStarts.{terminal_start}
use Rattle.node_numbers.proofs.NumbersAtPlaces.{above_first, above_by_row, right_first, right_by_column}

pub above_number : (f : Fabric) (q y t : ℕ) → y ≤ f.ny
    → wire_id f Chanx q y t ≡ kind_start f Chanx + (f.ny * wires_before f f.nx q + wire_number f f.nx q t) + y * length (starting_at f f.nx q)
above_number f q y t l = omega (arith, above_by_row f q y t l, above_first f q t)

pub right_number : (f : Fabric) (x q t : ℕ) → x ≤ f.nx → wire_id f Chany x q t ≡ kind_start f Chany + wire_number f f.ny q t + x * wires_before f f.ny (f.ny + 1)
right_number f x q t l = omega (arith, right_by_column f x q t l, right_first f q t)

-- ---- the places of wires
pub first_upto : (f : Fabric) (n t p : ℕ) → first_of f n t p ≤ p
unfolding first_of
first_upto f n t p = omega arith

-- behind the end of a wire begins the next
pub behind_first : (f : Fabric) (n t x : ℕ) → 1 ≤ x → x ≤ n → begins f n t x ≡ true → last_of f n t x < n → first_of f n t (last_of f n t x + 1) ≡ last_of f n t x + 1
behind_first f n t x l m e less =
    let here : IsBeginning f n t x = record { from = l; upto = m; begins_here = e } in
    first_of_itself f n t (last_of f n t x + 1) (begins_after f n t x here less)

-- the end of a wire from the table
pub wire_end : (f : Fabric) (n t x : ℕ) (w : Wire) → w ≡ wire_at f n x t → 1 ≤ x → x ≤ n → begins f n t x ≡ true → w.last ≡ last_of f n t x
wire_end f n t x w e l m here = ap (λ v. v.last) e ∙ ap (last_of f n t) (first_of_itself f n t x (record { from = l; upto = m; begins_here = here }))

pub end_within : (f : Fabric) (n t x : ℕ) → x ≤ n → (x ≤ last_of f n t x) × (last_of f n t x ≤ n)
end_within f n t x l = let last = last_of-is f n t x l in (last.from, last.upto)

-- ---- where the input pins of a place stand
module _ (f : Fabric) where
  abbrev pins_of_block : ℕ
  pins_of_block = length (block_numbers f Ipin)

  columns_from : (x : ℕ) → 1 ≤ x → columns_length f pins_of_block x ≡ f.ny * f.architecture.io_rat + (x - 1) * pins_of_column f
  unfolding columns_length
  columns_from x l = let some : (x == 0) ≡ false = grind (arith, nat_tests) in rw some refl

  rows_inside : (x y z : ℕ) → is_between 1 f.nx x ≡ is_between 1 f.nx z → rows_length f pins_of_block x y ≡ rows_length f pins_of_block z y
  unfolding rows_length
  rows_inside x y z e = ap (λ b. if b then (if y == 0 then 0 else f.architecture.io_rat + (y - 1) * pins_of_block) else (y - 1) * f.architecture.io_rat) e

  rows_from : (x y : ℕ) → 1 ≤ y → rows_length f pins_of_block x y ≡ (if is_between 1 f.nx x then f.architecture.io_rat else 0) + (y - 1) * pins_of_row f x
  unfolding rows_length
  rows_from x y l =
      let some : (y == 0) ≡ false = grind (arith, nat_tests) in
      rw some (chosen (is_between 1 f.nx x))
    where
      chosen : (b : Bool) →
          (if b then f.architecture.io_rat + (y - 1) * pins_of_block else (y - 1) * f.architecture.io_rat)
          ≡ (if b then f.architecture.io_rat else 0) + (y - 1) * (if b then pins_of_block else f.architecture.io_rat)
      chosen true = refl
      chosen false = omega arith

  times_more : (a k m : ℕ) → (a + k) * m ≡ a * m + k * m
  times_more a k m = omega arith

  pub pins_by_column : (x y k : ℕ) → 1 ≤ x → x + k ≤ f.nx → y ≤ f.ny + 1 → place_start f Ipin (x + k) y ≡ place_start f Ipin x y + k * pins_of_column f
  pins_by_column x y k l m n =
      let further : x + k - 1 ≡ x - 1 + k = omega arith in
      let inside : is_between 1 f.nx (x + k) ≡ is_between 1 f.nx x = grind (arith, nat_tests) in
      omega (
        arith,
        terminal_start f Ipin refl (x + k) y (omega arith) n,
        terminal_start f Ipin refl x y (omega arith) n,
        columns_from (x + k) (omega arith),
        columns_from x l,
        ap (λ a. a * pins_of_column f) further,
        times_more (x - 1) k (pins_of_column f),
        rows_inside (x + k) y x inside,
      )

  pub pins_by_row : (x y k : ℕ) → x ≤ f.nx + 1 → 1 ≤ y → y + k ≤ f.ny + 1 → place_start f Ipin x (y + k) ≡ place_start f Ipin x y + k * pins_of_row f x
  pins_by_row x y k l m n =
      let further : y + k - 1 ≡ y - 1 + k = omega arith in
      omega (
        arith,
        terminal_start f Ipin refl x (y + k) l n,
        terminal_start f Ipin refl x y l (omega arith),
        rows_from x (y + k) (omega arith),
        rows_from x y m,
        ap (λ a. a * pins_of_row f x) further,
        times_more (y - 1) k (pins_of_row f x),
      )

  -- ---- where they stand, behind the columns before them
  no_rows : (x : ℕ) → rows_length f pins_of_block x 0 ≡ 0
  unfolding rows_length
  no_rows x = chosen (is_between 1 f.nx x)
    where
      chosen : (b : Bool) → (if b then zero else (0 - 1) * f.architecture.io_rat) ≡ 0
      chosen true = refl
      chosen false = omega arith

  pub first_of_column : (x : ℕ) → 1 ≤ x → x ≤ f.nx + 1 → place_start f Ipin x 0 ≡ kind_start f Ipin + (f.ny * f.architecture.io_rat + (x - 1) * pins_of_column f)
  first_of_column x l m = omega (arith, terminal_start f Ipin refl x 0 m (omega arith), columns_from x l, no_rows x)

  pins_by_blocks : (x : ℕ) → 1 ≤ x → x ≤ f.nx → pins_of_row f x ≡ pins_of_block
  pins_by_blocks x l m = let inside : is_between 1 f.nx x ≡ true = grind (arith, nat_tests) in rw inside refl

  pins_by_pads : (x : ℕ) → (x ≡ 0) ⊎ (x ≡ f.nx + 1) → pins_of_row f x ≡ f.architecture.io_rat
  pins_by_pads x end = let outside : is_between 1 f.nx x ≡ false = grind (arith, nat_tests) in rw outside refl

  pub first_of_block : (x y : ℕ) → 1 ≤ x → x ≤ f.nx → 1 ≤ y → y ≤ f.ny + 1 → place_start f Ipin x y ≡ place_start f Ipin x 0 + (f.architecture.io_rat + (y - 1) * pins_of_block)
  first_of_block x y l m n o =
      let inside : is_between 1 f.nx x ≡ true = grind (arith, nat_tests) in
      let rows : rows_length f pins_of_block x y ≡ f.architecture.io_rat + (y - 1) * pins_of_block = rw inside at (rows_from x y n) in
      omega (arith, terminal_start f Ipin refl x y (omega arith) o, terminal_start f Ipin refl x 0 (omega arith) (omega arith), no_rows x, rows)

  pub first_of_pads : (x y : ℕ) → x ≡ f.nx + 1 → 1 ≤ y → y ≤ f.ny → place_start f Ipin x y ≡ place_start f Ipin x 0 + (y - 1) * f.architecture.io_rat
  first_of_pads x y end n o =
      let outside : is_between 1 f.nx x ≡ false = grind (arith, nat_tests) in
      let rows : rows_length f pins_of_block x y ≡ 0 + (y - 1) * f.architecture.io_rat = rw outside at (rows_from x y n) in
      omega (arith, terminal_start f Ipin refl x y (omega arith) (omega arith), terminal_start f Ipin refl x 0 (omega arith) (omega arith), no_rows x, rows)

  -- ---- which of them tap a wire
  module _ (side : Sides → Bool) (t : ℕ) (taps : Taps) where
    here :
        (b : Bool) → taps.places.now ≡ (if b then tapping_pins f side t else tapping_pads f t)
        → (x y k : ℕ) → is_block f x y ≡ b → taps.start + k * taps.step ≡ place_start f Ipin x y → pins_at taps k ≡ pins_beside f side x y t
    unfolding pins_beside
    here b which x y k e start =
        ap (λ s. map (λ j. s + j) taps.places.now) start
        ∙ ap (map (λ j. place_start f Ipin x y + j)) (which ∙ ap (λ a. if a then tapping_pins f side t else tapping_pads f t) (sym e))

    -- along a row
    module _ (x y k : ℕ) (start : taps.start ≡ place_start f Ipin x y) (step : taps.step ≡ pins_of_column f) (from : 1 ≤ x) (upto : x + k ≤ f.nx) where
      pub row_pins : taps.places.now ≡ tapping_pins f side t → 1 ≤ y → y ≤ f.ny → pins_at taps k ≡ pins_beside f side (x + k) y t
      row_pins which l m = here true which (x + k) y k (grind (arith, nat_tests)) (omega (arith, start, ap (λ s. k * s) step, pins_by_column x y k from upto (omega arith)))

      pub row_pads : taps.places.now ≡ tapping_pads f t → (y ≡ 0) ⊎ (y ≡ f.ny + 1) → pins_at taps k ≡ pins_beside f side (x + k) y t
      row_pads which end = here false which (x + k) y k (grind (arith, nat_tests)) (omega (arith, start, ap (λ s. k * s) step, pins_by_column x y k from upto (omega arith)))

    -- along a column
    module _ (x y k : ℕ) (start : taps.start ≡ place_start f Ipin x y) (from : 1 ≤ y) (upto : y + k ≤ f.ny) where
      pub column_pins : taps.step ≡ pins_of_block → taps.places.now ≡ tapping_pins f side t → 1 ≤ x → x ≤ f.nx → pins_at taps k ≡ pins_beside f side x (y + k) t
      column_pins step which l m = here true which x (y + k) k (grind (arith, nat_tests)) (omega (arith, start, ap (λ s. k * s) (step ∙ sym (pins_by_blocks x l m)), pins_by_row x y k (omega arith) from (omega arith)))

      pub column_pads : taps.step ≡ f.architecture.io_rat → taps.places.now ≡ tapping_pads f t → (x ≡ 0) ⊎ (x ≡ f.nx + 1) → pins_at taps k ≡ pins_beside f side x (y + k) t
      column_pads step which end = here false which x (y + k) k (grind (arith, nat_tests)) (omega (arith, start, ap (λ s. k * s) (step ∙ sym (pins_by_pads x end)), pins_by_row x y k (omega arith) from (omega arith)))
