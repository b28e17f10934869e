-- How many nodes stand before a place, by arithmetic.
use Rattle.std.proofs.Common.{◌≡◌, ℕ, ◌+◌, ◌-◌, ◌*◌, ◌/◌, ◌%◌, ◌≤◌, zero, suc, true, false, inl, inr, List, length, refl, sym, ap, ◌∙◌, arith}
use Rattle.std.specs.Prelude.{◌==◌, nat_le}
use Rattle.std.specs.List.{flat_map}
use Rattle.std.proofs.lemmas.Bool.{cases_Bool, cases_lt, false≢true}
use Rattle.std.proofs.lemmas.Bool.Decides.{nat_tests}
use Rattle.std.proofs.lemmas.Nat.{div-add-mod'}
use Rattle.std.proofs.lemmas.List.{length-map}
use Rattle.std.proofs.lemmas.List.FromFn.{length-range_with_len}
use Rattle.channel_tables.specs.declared.node.Kind.{Kind}
use Rattle.channel_tables.specs.declared.node.Kind.TheVariants.{Source, Sink, Opin, Ipin, Chanx, Chany}
use Rattle.channel_tables.specs.Fabric.{Fabric, IsFabric, numbers_below, is_block, is_pad, is_between}
use Rattle.node_numbers.specs.Nodes.{numbers_at, terminals_at, node_of, nodes_at, nodes_of_column}
use Rattle.node_numbers.specs.Starts.{kind_length, kind_start, column_start, place_start}
use Rattle.node_numbers.specs.Numbering.{is_terminal, block_numbers}
use Rattle.node_numbers.specs.kept.Columns.{columns_length, rows_length, terminals_length}
use Rattle.channel_tables.specs.Channels.{starting_at, wires_before}
use Rattle.channel_tables.proofs.Rising.{Rises, length-rises, classes-rise, pins-rise}
use Rattle.channel_tables.proofs.Lengths.{length_next, length_even, length_after_first, length_times}

-- ---- terminals: pins and classes at blocks, pads around them
module _ (f : Fabric) (numbers : List ℕ) where
  abbrev count_at : ℕ → ℕ → ℕ
  count_at x y = length (terminals_at f x y numbers)

  pads_at : (x y : ℕ) → is_block f x y ≡ false → is_pad f x y ≡ true → count_at x y ≡ f.architecture.io_rat
  pads_at x y block pad = rw (block, pad) (length-range_with_len 0 f.architecture.io_rat)

  numbers_at_block : (x y : ℕ) → is_block f x y ≡ true → count_at x y ≡ length numbers
  numbers_at_block x y block = rw block refl

  none_at : (x y : ℕ) → is_block f x y ≡ false → is_pad f x y ≡ false → count_at x y ≡ 0
  none_at x y block pad = rw (block, pad) refl

  -- the columns of pads
  pub left_first : count_at 0 0 ≡ 0
  left_first = none_at 0 0 (grind (arith, nat_tests)) (grind (arith, nat_tests))

  pub left_middle : (y : ℕ) → 1 ≤ y → y ≤ f.ny → count_at 0 y ≡ f.architecture.io_rat
  left_middle y l m = pads_at 0 y (grind (arith, nat_tests)) (grind (arith, nat_tests))

  pub left_last : count_at 0 (f.ny + 1) ≡ 0
  left_last = none_at 0 (f.ny + 1) (grind (arith, nat_tests)) (grind (arith, nat_tests))

  pub right_first : count_at (f.nx + 1) 0 ≡ 0
  right_first = none_at (f.nx + 1) 0 (grind (arith, nat_tests)) (grind (arith, nat_tests))

  pub right_middle : (y : ℕ) → 1 ≤ y → y ≤ f.ny → count_at (f.nx + 1) y ≡ f.architecture.io_rat
  right_middle y l m = pads_at (f.nx + 1) y (grind (arith, nat_tests)) (grind (arith, nat_tests))

  pub right_last : count_at (f.nx + 1) (f.ny + 1) ≡ 0
  right_last = none_at (f.nx + 1) (f.ny + 1) (grind (arith, nat_tests)) (grind (arith, nat_tests))

  -- the columns of blocks
  pub first_row : (x : ℕ) → 1 ≤ x → x ≤ f.nx → count_at x 0 ≡ f.architecture.io_rat
  first_row x l m = pads_at x 0 (grind (arith, nat_tests)) (grind (arith, nat_tests))

  pub middle_row : (x y : ℕ) → 1 ≤ x → x ≤ f.nx → 1 ≤ y → y ≤ f.ny → count_at x y ≡ length numbers
  middle_row x y l m i j = numbers_at_block x y (grind (arith, nat_tests))

  pub last_row : (x : ℕ) → 1 ≤ x → x ≤ f.nx → count_at x (f.ny + 1) ≡ f.architecture.io_rat
  last_row x l m = pads_at x (f.ny + 1) (grind (arith, nat_tests)) (grind (arith, nat_tests))

-- ---- a kind of terminals or pins, by its numbers at a block
pub numbers_of_terminal : (f : Fabric) (k : Kind) (x y : ℕ) → is_terminal k ≡ true → numbers_at f k x y ≡ terminals_at f x y (block_numbers f k)
unfolding numbers_at block_numbers
numbers_of_terminal f Source x y e = refl
numbers_of_terminal f Sink x y e = refl
numbers_of_terminal f Opin x y e = refl
numbers_of_terminal f Ipin x y e = refl
numbers_of_terminal f Chanx x y e = absurd (false≢true e)
numbers_of_terminal f Chany x y e = absurd (false≢true e)

module _ (f : Fabric) (k : Kind) (terminal : is_terminal k ≡ true) where
  at_length : (x y : ℕ) → length (nodes_at f k x y) ≡ length (terminals_at f x y (block_numbers f k))
  at_length x y = length-map (numbers_at f k x y) (node_of k x y) ∙ ap length (numbers_of_terminal f k x y terminal)

  -- rows before the one after y
  left_rows : (y : ℕ) → y ≤ f.ny → length (flat_map (nodes_at f k 0) (numbers_below (y + 1))) ≡ y * f.architecture.io_rat
  left_rows y l =
      omega (arith, length_after_first (nodes_at f k 0) f.architecture.io_rat f.ny y (λ i a b. at_length 0 i ∙ left_middle f (block_numbers f k) i a b) l, at_length 0 0, left_first f (block_numbers f k))

  right_rows : (y : ℕ) → y ≤ f.ny → length (flat_map (nodes_at f k (f.nx + 1)) (numbers_below (y + 1))) ≡ y * f.architecture.io_rat
  right_rows y l =
      omega (arith, length_after_first (nodes_at f k (f.nx + 1)) f.architecture.io_rat f.ny y (λ i a b. at_length (f.nx + 1) i ∙ right_middle f (block_numbers f k) i a b) l, at_length (f.nx + 1) 0, right_first f (block_numbers f k))

  inner_rows : (x y : ℕ) → 1 ≤ x → x ≤ f.nx → y ≤ f.ny → length (flat_map (nodes_at f k x) (numbers_below (y + 1))) ≡ f.architecture.io_rat + y * length (block_numbers f k)
  inner_rows x y a b l =
      omega (arith, length_after_first (nodes_at f k x) (length (block_numbers f k)) f.ny y (λ i c d. at_length x i ∙ middle_row f (block_numbers f k) x i a b c d) l, at_length x 0, first_row f (block_numbers f k) x a b)

  left_column : length (nodes_of_column f k 0) ≡ f.ny * f.architecture.io_rat
  left_column =
      let e : f.ny + 2 ≡ f.ny + 1 + 1 = omega arith in
      omega (arith, ap (λ n. length (flat_map (nodes_at f k 0) (numbers_below n))) e, length_next (nodes_at f k 0) (f.ny + 1), left_rows f.ny (omega arith), at_length 0 (f.ny + 1), left_last f (block_numbers f k))

  right_column : length (nodes_of_column f k (f.nx + 1)) ≡ f.ny * f.architecture.io_rat
  right_column =
      let e : f.ny + 2 ≡ f.ny + 1 + 1 = omega arith in
      omega (arith, ap (λ n. length (flat_map (nodes_at f k (f.nx + 1)) (numbers_below n))) e, length_next (nodes_at f k (f.nx + 1)) (f.ny + 1), right_rows f.ny (omega arith), at_length (f.nx + 1) (f.ny + 1), right_last f (block_numbers f k))

  inner_column : (x : ℕ) → 1 ≤ x → x ≤ f.nx → length (nodes_of_column f k x) ≡ 2 * f.architecture.io_rat + f.ny * length (block_numbers f k)
  inner_column x a b =
      let e : f.ny + 2 ≡ f.ny + 1 + 1 = omega arith in
      omega (arith, ap (λ n. length (flat_map (nodes_at f k x) (numbers_below n))) e, length_next (nodes_at f k x) (f.ny + 1), inner_rows x f.ny a b (omega arith), at_length x (f.ny + 1), last_row f (block_numbers f k) x a b)

  -- columns before the one after x
  columns : (x : ℕ) → x ≤ f.nx → length (flat_map (nodes_of_column f k) (numbers_below (x + 1))) ≡ f.ny * f.architecture.io_rat + x * (2 * f.architecture.io_rat + f.ny * length (block_numbers f k))
  columns x l = length_after_first (nodes_of_column f k) (2 * f.architecture.io_rat + f.ny * length (block_numbers f k)) f.nx x inner_column l ∙ ap (λ n. n + x * (2 * f.architecture.io_rat + f.ny * length (block_numbers f k))) left_column

  pub terminal_count : kind_length f k ≡ terminals_length f (length (block_numbers f k))
  unfolding terminals_length
  terminal_count =
      let e : f.nx + 2 ≡ f.nx + 1 + 1 = omega arith in
      omega (arith, ap (λ n. length (flat_map (nodes_of_column f k) (numbers_below n))) e, length_next (nodes_of_column f k) (f.nx + 1), columns f.nx (omega arith), right_column)

  -- the columns before x, and the rows before y in it
  pub columns_before : (x : ℕ) → x ≤ f.nx + 1 → length (flat_map (nodes_of_column f k) (numbers_below x)) ≡ columns_length f (length (block_numbers f k)) x
  unfolding columns_length
  columns_before zero l = refl
  columns_before (suc x) l =
      let e : suc x ≡ x + 1 = omega arith in
      let d : suc x - 1 ≡ x = omega arith in
      let some : (suc x == 0) ≡ false = grind (arith, nat_tests) in
      rw some (ap (λ n. length (flat_map (nodes_of_column f k) (numbers_below n))) e ∙ columns x (omega arith) ∙ ap (λ n. f.ny * f.architecture.io_rat + n * (2 * f.architecture.io_rat + f.ny * length (block_numbers f k))) (sym d))

  side_rows : (x y : ℕ) → is_between 1 f.nx x ≡ false → x ≤ f.nx + 1 → y ≤ f.ny → length (flat_map (nodes_at f k x) (numbers_below (y + 1))) ≡ y * f.architecture.io_rat
  side_rows x y out l m = elim (cases_lt 0 x) [
    | inr none ↦ let e : x ≡ 0 = omega arith in ap (λ c. length (flat_map (nodes_at f k c) (numbers_below (y + 1)))) e ∙ left_rows y m
    | inl some ↦ elim (cases_lt f.nx x) [
      | inl past ↦ let e : x ≡ f.nx + 1 = omega arith in ap (λ c. length (flat_map (nodes_at f k c) (numbers_below (y + 1)))) e ∙ right_rows y m
      | inr upto ↦ let inside : is_between 1 f.nx x ≡ true = grind (arith, nat_tests) in absurd (false≢true (sym out ∙ inside))
    ]
  ]

  inside_parts : (x : ℕ) → is_between 1 f.nx x ≡ true → (1 ≤ x) × (x ≤ f.nx)
  inside_parts x e = (grind (arith, nat_tests), grind (arith, nat_tests))

  pub rows_before : (x y : ℕ) → x ≤ f.nx + 1 → y ≤ f.ny + 1 → length (flat_map (nodes_at f k x) (numbers_below y)) ≡ rows_length f (length (block_numbers f k)) x y
  unfolding rows_length
  rows_before x zero l m = elim (cases_Bool (is_between 1 f.nx x)) [ inl t ↦ rw t refl | inr t ↦ rw t (omega arith) ]
  rows_before x (suc y) l m =
      let e : suc y ≡ y + 1 = omega arith in
      let d : suc y - 1 ≡ y = omega arith in
      let some : (suc y == 0) ≡ false = grind (arith, nat_tests) in
      let more = ap (λ n. length (flat_map (nodes_at f k x) (numbers_below n))) e in
      elim (cases_Bool (is_between 1 f.nx x)) [
        | inl t ↦ let p = inside_parts x t in rw (t, some) (more ∙ inner_rows x y p.0 p.1 (omega arith) ∙ ap (λ n. f.architecture.io_rat + n * length (block_numbers f k)) (sym d))
        | inr t ↦ rw t (more ∙ side_rows x y t l (omega arith) ∙ ap (λ n. n * f.architecture.io_rat) (sym d))
      ]

  pub terminal_start : (x y : ℕ) → x ≤ f.nx + 1 → y ≤ f.ny + 1 → place_start f k x y ≡ kind_start f k + columns_length f (length (block_numbers f k)) x + rows_length f (length (block_numbers f k)) x y
  unfolding place_start column_start
  terminal_start x y l m = omega (arith, columns_before x l, rows_before x y l m)

-- the column and the rest that a division finds
pub column_passed : (f : Fabric) (count at : ℕ) → f.ny * f.architecture.io_rat ≤ at
    → columns_length f count ((at - f.ny * f.architecture.io_rat) / (2 * f.architecture.io_rat + f.ny * count) + 1) + (at - f.ny * f.architecture.io_rat) % (2 * f.architecture.io_rat + f.ny * count) ≡ at
unfolding columns_length
column_passed f count at l =
    let behind = at - f.ny * f.architecture.io_rat in
    let inner = 2 * f.architecture.io_rat + f.ny * count in
    let some : (behind / inner + 1 == 0) ≡ false = grind (arith, nat_tests) in
    let back : behind / inner + 1 - 1 ≡ behind / inner = omega arith in
    rw (some, back) (omega (arith, div-add-mod' behind inner))

pub terminal_length : (f : Fabric) (k : Kind) → is_terminal k ≡ true → terminals_length f (length (block_numbers f k)) ≡ kind_length f k
terminal_length f k e = sym (terminal_count f k e)

numbers_rise : (f : Fabric) (k : Kind) → IsFabric f → Rises 0 64 (block_numbers f k)
unfolding block_numbers
numbers_rise f Source l = classes-rise f.architecture _ l.limits
numbers_rise f Sink l = classes-rise f.architecture _ l.limits
numbers_rise f Opin l = pins-rise f.architecture _ l.limits
numbers_rise f Ipin l = pins-rise f.architecture _ l.limits
numbers_rise f Chanx l = omega arith
numbers_rise f Chany l = omega arith

pub few_numbers : (f : Fabric) (k : Kind) → IsFabric f → length (block_numbers f k) ≤ 64
few_numbers f k l = omega (arith, length-rises 0 64 (block_numbers f k) (numbers_rise f k l))

-- ---- wires
above_length : (f : Fabric) (x y : ℕ) → y ≤ f.ny → length (nodes_at f Chanx x y) ≡ length (starting_at f f.nx x)
unfolding numbers_at
above_length f x y l =
    let e : nat_le y f.ny ≡ true = grind (arith, nat_tests) in
    length-map (numbers_at f Chanx x y) (node_of Chanx x y) ∙ rw e (elim (cases_Bool (is_between 1 f.nx x)) [ inl t ↦ rw t refl | inr t ↦ rw t refl ])

above_none : (f : Fabric) (x : ℕ) → length (nodes_at f Chanx x (f.ny + 1)) ≡ 0
unfolding numbers_at
above_none f x =
    let e : nat_le (f.ny + 1) f.ny ≡ false = grind (arith, nat_tests) in
    length-map (numbers_at f Chanx x (f.ny + 1)) (node_of Chanx x (f.ny + 1)) ∙ rw e (elim (cases_Bool (is_between 1 f.nx x)) [ inl t ↦ rw t refl | inr t ↦ rw t refl ])

-- the wires above the rows before y, at place x
above_rows : (f : Fabric) (x y : ℕ) → y ≤ f.ny + 1 → length (flat_map (nodes_at f Chanx x) (numbers_below y)) ≡ y * length (starting_at f f.nx x)
above_rows f x y l = length_even (nodes_at f Chanx x) (length (starting_at f f.nx x)) (f.ny + 1) y (λ i m. above_length f x i (omega arith)) l

above_column : (f : Fabric) (x : ℕ) → length (nodes_of_column f Chanx x) ≡ (f.ny + 1) * length (starting_at f f.nx x)
above_column f x =
    let e : f.ny + 2 ≡ f.ny + 1 + 1 = omega arith in
    omega (arith, ap (λ n. length (flat_map (nodes_at f Chanx x) (numbers_below n))) e, length_next (nodes_at f Chanx x) (f.ny + 1), above_rows f x (f.ny + 1) (omega arith), above_none f x)

above_columns : (f : Fabric) (x : ℕ) → length (flat_map (nodes_of_column f Chanx) (numbers_below x)) ≡ (f.ny + 1) * wires_before f f.nx x
unfolding wires_before
above_columns f x = length_times (nodes_of_column f Chanx) (starting_at f f.nx) (f.ny + 1) x (above_column f)

pub above_start : (f : Fabric) (x y : ℕ) → y ≤ f.ny + 1 → place_start f Chanx x y ≡ kind_start f Chanx + (f.ny + 1) * wires_before f f.nx x + y * length (starting_at f f.nx x)
unfolding place_start column_start
above_start f x y l = omega (arith, above_columns f x, above_rows f x y l)

right_length : (f : Fabric) (x y : ℕ) → x ≤ f.nx → length (nodes_at f Chany x y) ≡ length (starting_at f f.ny y)
unfolding numbers_at
right_length f x y l =
    let e : nat_le x f.nx ≡ true = grind (arith, nat_tests) in
    length-map (numbers_at f Chany x y) (node_of Chany x y) ∙ rw e refl

right_none : (f : Fabric) (y : ℕ) → length (nodes_at f Chany (f.nx + 1) y) ≡ 0
unfolding numbers_at
right_none f y =
    let e : nat_le (f.nx + 1) f.nx ≡ false = grind (arith, nat_tests) in
    length-map (numbers_at f Chany (f.nx + 1) y) (node_of Chany (f.nx + 1) y) ∙ rw e refl

-- the wires right of column x, in the rows before y
right_rows_before : (f : Fabric) (x y : ℕ) → x ≤ f.nx → length (flat_map (nodes_at f Chany x) (numbers_below y)) ≡ wires_before f f.ny y
unfolding wires_before
right_rows_before f x y l = length_times (nodes_at f Chany x) (starting_at f f.ny) 1 y (λ i. right_length f x i l ∙ let e = length (starting_at f f.ny i) in omega arith) ∙ omega arith

-- the place behind the channel has none
none_after : (f : Fabric) (n : ℕ) → wires_before f n (n + 2) ≡ wires_before f n (n + 1)
unfolding wires_before
none_after f n =
    let out : is_between 1 n (n + 1) ≡ false = grind (arith, nat_tests) in
    let none : length (starting_at f n (n + 1)) ≡ 0 = rw out refl in
    let e : n + 2 ≡ n + 1 + 1 = omega arith in
    omega (arith, ap (λ m. length (flat_map (starting_at f n) (numbers_below m))) e, length_next (starting_at f n) (n + 1), none)

right_columns : (f : Fabric) (x : ℕ) → x ≤ f.nx + 1 → length (flat_map (nodes_of_column f Chany) (numbers_below x)) ≡ x * wires_before f f.ny (f.ny + 1)
right_columns f x l = length_even (nodes_of_column f Chany) (wires_before f f.ny (f.ny + 1)) (f.nx + 1) x (λ i m. right_rows_before f i (f.ny + 2) (omega arith) ∙ none_after f f.ny) l

pub right_start : (f : Fabric) (x y : ℕ) → x ≤ f.nx → place_start f Chany x y ≡ kind_start f Chany + x * wires_before f f.ny (f.ny + 1) + wires_before f f.ny y
unfolding place_start column_start
right_start f x y l = omega (arith, right_columns f x (omega arith), right_rows_before f x y l)

pub above_count : (f : Fabric) → kind_length f Chanx ≡ (f.ny + 1) * wires_before f f.nx (f.nx + 1)
above_count f = above_columns f (f.nx + 2) ∙ ap (λ n. (f.ny + 1) * n) (none_after f f.nx)

pub right_count : (f : Fabric) → kind_length f Chany ≡ (f.nx + 1) * wires_before f f.ny (f.ny + 1)
right_count f =
    let e : f.nx + 2 ≡ f.nx + 1 + 1 = omega arith in
    let none = length_even (nodes_at f Chany (f.nx + 1)) 0 (f.ny + 2) (f.ny + 2) (λ i _. right_none f i) (omega arith) in
    omega (arith, ap (λ n. length (flat_map (nodes_of_column f Chany) (numbers_below n))) e, length_next (nodes_of_column f Chany) (f.nx + 1), right_columns f (f.nx + 1) (omega arith), none)
