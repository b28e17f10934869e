-- Which node has a number that a division has taken apart.
use Rattle.std.proofs.Common.{◌≡◌, ℕ, ◌+◌, ◌-◌, ◌*◌, ◌/◌, ◌%◌, ◌<◌, ◌≤◌, true, false, inl, inr, [], length, map, get_or, Some, None, refl, sym, ap, ◌∙◌, subst, arith}
use Rattle.std.specs.Prelude.{nat_le, if◌then◌else◌, slice_get, max}
use Rattle.std.specs.List.{flat_map}
use Rattle.std.specs.Option.{option_map}
use Rattle.std.proofs.lemmas.Bool.{cases_Bool, cases_lt}
use Rattle.std.proofs.lemmas.Bool.Decides.{nat_tests}
use Rattle.std.proofs.lemmas.Nat.{div-add-mod'}
use Rattle.std.proofs.Math.Nat.{div-add-mod, mod-lt, mul-le-mul_left, div-lt_iff_lt-mul}
use Rattle.std.proofs.lemmas.Option.{slice_get_past, slice_get_within, slice_get-get_or, slice_get-map, none-some, same_Some}
use Rattle.channel_tables.specs.declared.node.Kind.{Kind}
use Rattle.channel_tables.specs.declared.node.Kind.TheVariants.{Chanx, Chany}
use Rattle.channel_tables.specs.declared.channel.Beginning.{Beginning}
use Rattle.channel_tables.specs.Fabric.{Fabric, numbers_below, is_between, is_block, is_pad}
use Rattle.node_numbers.specs.Nodes.{numbers_at, node_of, node_at, nodes_of, node_count_of}
use Rattle.channel_tables.specs.Wires.{beginnings_at}
use Rattle.node_numbers.specs.Starts.{kind_length, kind_start, column_start, place_start}
use Rattle.node_numbers.specs.Numbering.{is_terminal, block_numbers}
use Rattle.node_numbers.specs.kept.Columns.{column_length, columns_length, rows_length, inner_rows_length}
use Rattle.channel_tables.specs.Channels.{starting_at, wires_before, beginning_of, beginnings_of}
use Rattle.node_numbers.specs.kept.Strides.{stride_at, column_stride}
use Rattle.channel_tables.proofs.Windows.{slice_get-flat_map, slice_get_from_flat_map, slice_get_from_map}
use Rattle.node_numbers.proofs.NodesByPlace.{node_at_place}
use Rattle.node_numbers.proofs.PlaceStarts.{columns_before, rows_before, above_start, right_start, above_count, right_count}
use Rattle.node_numbers.proofs.NumbersAtPlaces.{if_block, if_perimeter, number_itself}
use Rattle.channel_tables.proofs.WireTables.{before_is, beginnings_length}

-- ---- terminals and pins
module _ (f : Fabric) (k : Kind) (terminal : is_terminal k ≡ true) where
  pub terminal_column : (x rest at : ℕ) → x ≤ f.nx + 1 → columns_length f (length (block_numbers f k)) x + rest ≡ at → column_start f k x + rest ≡ kind_start f k + at
  unfolding column_start
  terminal_column x rest at l e = omega (arith, columns_before f k terminal x l, e)

  pub row_of_column : (x y : ℕ) → x ≤ f.nx + 1 → y ≤ f.ny + 1 → place_start f k x y ≡ column_start f k x + rows_length f (length (block_numbers f k)) x y
  unfolding place_start
  row_of_column x y l m = omega (arith, rows_before f k terminal x y l m)

  inner_rows : (x y : ℕ) → 1 ≤ x → x ≤ f.nx → rows_length f (length (block_numbers f k)) x y ≡ inner_rows_length f (length (block_numbers f k)) y
  unfolding rows_length
  inner_rows x y a b = let inside : is_between 1 f.nx x ≡ true = grind (arith, nat_tests) in rw inside refl

  side_rows : (x y : ℕ) → is_between 1 f.nx x ≡ false → rows_length f (length (block_numbers f k)) x y ≡ (y - 1) * f.architecture.io_rat
  unfolding rows_length
  side_rows x y out = rw out refl

  pub found_at_block : (x y j n rest : ℕ) → 1 ≤ x → x ≤ f.nx → 1 ≤ y → y ≤ f.ny → slice_get (block_numbers f k) j ≡ Some n
      → inner_rows_length f (length (block_numbers f k)) y + j ≡ rest → node_at f (column_start f k x + rest) ≡ Some (node_of k x y n)
  found_at_block x y j n rest a b c d e h =
      let block : is_block f x y ≡ true = grind (arith, nat_tests) in
      let start : place_start f k x y + j ≡ column_start f k x + rest = omega (arith, row_of_column x y (omega arith) (omega arith), inner_rows x y a b, h) in
      ap (node_at f) (sym start) ∙ node_at_place f k x y j n (if_block f k x y n terminal j block ∙ e) (omega arith) (omega arith)

  pad_stands : (x y j : ℕ) → is_block f x y ≡ false → is_pad f x y ≡ true → j < f.architecture.io_rat → slice_get (numbers_at f k x y) j ≡ Some j
  pad_stands x y j block pad m =
      if_perimeter f k x y j terminal j block ∙ ap (λ b. slice_get (if b then numbers_below f.architecture.io_rat else []) j) pad ∙ number_itself f.architecture.io_rat j m

  pub found_pad_of_row : (x y j rest : ℕ) → 1 ≤ x → x ≤ f.nx → y ≤ f.ny + 1 → is_between 1 f.ny y ≡ false → j < f.architecture.io_rat
      → inner_rows_length f (length (block_numbers f k)) y + j ≡ rest → node_at f (column_start f k x + rest) ≡ Some (node_of k x y j)
  found_pad_of_row x y j rest a b c out m h =
      let block : is_block f x y ≡ false = grind (arith, nat_tests) in
      let pad : is_pad f x y ≡ true = grind (arith, nat_tests) in
      let start : place_start f k x y + j ≡ column_start f k x + rest = omega (arith, row_of_column x y (omega arith) c, inner_rows x y a b, h) in
      ap (node_at f) (sym start) ∙ node_at_place f k x y j j (pad_stands x y j block pad m) (omega arith) (omega arith)

  pub found_pad_of_column : (x y j rest : ℕ) → x ≤ f.nx + 1 → is_between 1 f.nx x ≡ false → 1 ≤ y → y ≤ f.ny → j < f.architecture.io_rat
      → (y - 1) * f.architecture.io_rat + j ≡ rest → node_at f (column_start f k x + rest) ≡ Some (node_of k x y j)
  found_pad_of_column x y j rest a out c d m h =
      let block : is_block f x y ≡ false = grind (arith, nat_tests) in
      let pad : is_pad f x y ≡ true = grind (arith, nat_tests) in
      let start : place_start f k x y + j ≡ column_start f k x + rest = omega (arith, row_of_column x y a (omega arith), side_rows x y out, h) in
      ap (node_at f) (sym start) ∙ node_at_place f k x y j j (pad_stands x y j block pad m) (omega arith) (omega arith)

pub inner_column_length : (f : Fabric) (count x : ℕ) → is_between 1 f.nx x ≡ true → column_length f count x ≡ 2 * f.architecture.io_rat + f.ny * count
unfolding column_length
inner_column_length f count x inside = rw inside refl

pub side_column_length : (f : Fabric) (count x : ℕ) → is_between 1 f.nx x ≡ false → column_length f count x ≡ f.ny * f.architecture.io_rat
unfolding column_length
side_column_length f count x out = rw out refl

-- ---- where wires begin
module _ (f : Fabric) (n : ℕ) where
  pub record BeginsAt (g : ℕ) (b : Beginning) : Type 0 where
    pub index : ℕ
    pub stands : slice_get (starting_at f n b.place) index ≡ Some b.track
    pub number : g ≡ wires_before f n b.place + index

  pub begins_at : (g : ℕ) (b : Beginning) → slice_get (beginnings_of f n) g ≡ Some b → BeginsAt g b
  unfolding beginnings_of
  begins_at g b e =
      let place = slice_get_from_flat_map (λ q. map (beginning_of q) (starting_at f n q)) (n + 1) g b e in
      let track = slice_get_from_map (beginning_of place.0) (starting_at f n place.0) place.1 b place.3 in
      subst (BeginsAt g) track.2 (record { index = place.1; stands = track.1; number = omega (arith, place.4, before_is f n place.0) })

  pub begins_there : (p j t : ℕ) → p ≤ n → slice_get (starting_at f n p) j ≡ Some t → slice_get (beginnings_of f n) (wires_before f n p + j) ≡ Some (beginning_of p t)
  unfolding beginnings_of
  begins_there p j t l e =
      ap (λ s. slice_get (flat_map (λ q. map (beginning_of q) (starting_at f n q)) (numbers_below (n + 1))) (s + j)) (sym (before_is f n p))
      ∙ slice_get-flat_map (λ q. map (beginning_of q) (starting_at f n q)) (n + 1) p j (beginning_of p t) (omega arith) (slice_get-map (beginning_of p) (starting_at f n p) j ∙ ap (option_map (beginning_of p)) e)

-- ---- wires
pub place_within : (f : Fabric) (n p j t : ℕ) → slice_get (starting_at f n p) j ≡ Some t → (1 ≤ p) × (p ≤ n) × (j < length (starting_at f n p))
place_within f n p j t e = elim (cases_Bool (is_between 1 n p)) [
  | inl inside ↦ (grind (arith, nat_tests), grind (arith, nat_tests), slice_get_within (starting_at f n p) j t e)
  | inr out ↦ absurd (none-some t (sym (ap (λ b. slice_get (if b then beginnings_at f n p else []) j) out) ∙ e))
]

-- the row that a division finds among wires of one place
pub row_found : (h at before step index : ℕ) → at / h ≡ before + index → index < step → 0 < h
    → ((at - h * before) / step < h) × ((at - h * before) % step < step) × (h * before + (at - h * before) / step * step + (at - h * before) % step ≡ at)
row_found h at before step index e l some =
    let rest = at - h * before in
    let whole = div-add-mod at h in
    let split : h * (at / h) ≡ h * before + h * index = ap (λ q. h * q) e ∙ omega arith in
    let more : h * (index + 1) ≤ h * step = mul-le-mul_left h (omega arith) in
    let under : rest < h * step = omega (arith, whole, split, more, mod-lt at some) in
    let some_step : 0 < step = omega arith in
    ((div-lt_iff_lt-mul some_step).1 under, mod-lt rest some_step, omega (arith, whole, split, div-add-mod' rest step))

numbers_above : (f : Fabric) (x y : ℕ) → y ≤ f.ny → numbers_at f Chanx x y ≡ starting_at f f.nx x
unfolding numbers_at
numbers_above f x y l =
    let e : nat_le y f.ny ≡ true = grind (arith, nat_tests) in
    rw e (elim (cases_Bool (is_between 1 f.nx x)) [ inl t ↦ rw t refl | inr t ↦ rw t refl ])

numbers_right : (f : Fabric) (x y : ℕ) → x ≤ f.nx → numbers_at f Chany x y ≡ starting_at f f.ny y
unfolding numbers_at
numbers_right f x y l = let e : nat_le x f.nx ≡ true = grind (arith, nat_tests) in rw e refl

pub found_above : (f : Fabric) (at x y j t : ℕ) → x ≤ f.nx → y ≤ f.ny → slice_get (starting_at f f.nx x) j ≡ Some t
    → (f.ny + 1) * wires_before f f.nx x + y * length (starting_at f f.nx x) + j ≡ at → node_at f (kind_start f Chanx + at) ≡ Some (node_of Chanx x y t)
found_above f at x y j t l m e h =
    let start : place_start f Chanx x y + j ≡ kind_start f Chanx + at = omega (arith, above_start f x y (omega arith), h) in
    ap (node_at f) (sym start) ∙ node_at_place f Chanx x y j t (ap (λ ns. slice_get ns j) (numbers_above f x y m) ∙ e) (omega arith) (omega arith)

pub found_right : (f : Fabric) (at x y j t : ℕ) → x ≤ f.nx → y ≤ f.ny → slice_get (starting_at f f.ny y) j ≡ Some t
    → x * wires_before f f.ny (f.ny + 1) + (wires_before f f.ny y + j) ≡ at → node_at f (kind_start f Chany + at) ≡ Some (node_of Chany x y t)
found_right f at x y j t l m e h =
    let start : place_start f Chany x y + j ≡ kind_start f Chany + at = omega (arith, right_start f x y l, h) in
    ap (node_at f) (sym start) ∙ node_at_place f Chany x y j t (ap (λ ns. slice_get ns j) (numbers_right f x y l) ∙ e) (omega arith) (omega arith)

-- what the look-ups of a wire above a row find: h rows but one, its place, how many wires begin
-- before it and there
pub record RowFound (f : Fabric) (at h place before step : ℕ) : Type 0 where
  pub upto : place ≤ f.nx
  pub below : (h + 1) * before ≤ at
  pub some : 0 < step
  pub next : before + (at - (h + 1) * before) % step < wires_before f f.nx (f.nx + 1)
  pub found : (c : Beginning) → slice_get (beginnings_of f f.nx) (before + (at - (h + 1) * before) % step) ≡ Some c
      → node_at f (kind_start f Chanx + at) ≡ Some (node_of Chanx place ((at - (h + 1) * before) / step) c.track)

row_of_beginning : (f : Fabric) (at : ℕ) (b : Beginning) → slice_get (beginnings_of f f.nx) (at / (f.ny + 1)) ≡ Some b
    → RowFound f at f.ny b.place (wires_before f f.nx b.place) (length (starting_at f f.nx b.place))
row_of_beginning f at b e =
    let p = b.place in
    let begun = begins_at f f.nx (at / (f.ny + 1)) b e in
    let inside = place_within f f.nx p begun.index b.track begun.stands in
    let before = wires_before f f.nx p in
    let step = length (starting_at f f.nx p) in
    let row = row_found (f.ny + 1) at before step begun.index begun.number inside.2 (omega arith) in
    let j = (at - (f.ny + 1) * before) % step in
    let t = get_or (starting_at f f.nx p) j 0 in
    let stands : slice_get (starting_at f f.nx p) j ≡ Some t = slice_get-get_or (starting_at f f.nx p) j 0 row.1 in
    let there = begins_there f f.nx p j t inside.1 stands in
    record {
      upto = inside.1;
      below = omega (arith, row.2);
      some = omega (arith, inside.2);
      next = omega (arith, slice_get_within (beginnings_of f f.nx) (before + j) (beginning_of p t) there, beginnings_length f f.nx);
      found = λ c h.
          let same = ap (λ d. d.track) (same_Some (beginning_of p t) c (sym there ∙ h)) in
          found_above f at p ((at - (f.ny + 1) * before) / step) j t inside.1 (omega (arith, row.0)) stands (omega (arith, row.2)) ∙ ap (λ n. Some (node_of Chanx p ((at - (f.ny + 1) * before) / step) n)) same;
    }

-- a count of one at least
one_at_least : (n : ℕ) → 0 < n → n ≡ max n 1
one_at_least n some = omega (arith, some)

pub row_of_number : (f : Fabric) (at h place before : ℕ) (b : Beginning) → h ≡ f.ny → slice_get (beginnings_of f f.nx) (at / (f.ny + 1)) ≡ Some b
    → place ≡ b.place → before ≡ wires_before f f.nx place → RowFound f at h place before (stride_at f place)
row_of_number f at h place before b e first p q =
    let row = row_of_beginning f at b first in
    rw (q, p, e) (subst (RowFound f at f.ny b.place (wires_before f f.nx b.place)) (one_at_least (length (starting_at f f.nx b.place)) row.some) row)

pub index_above : (f : Fabric) (at : ℕ) → at < kind_length f Chanx → at / (f.ny + 1) < wires_before f f.nx (f.nx + 1)
index_above f at l =
    let some : 0 < f.ny + 1 = omega arith in
    let within : at < wires_before f f.nx (f.nx + 1) * (f.ny + 1) = omega (arith, l, above_count f) in
    (div-lt_iff_lt-mul some).1 within

some_right : (f : Fabric) (at : ℕ) → at < kind_length f Chany → 0 < wires_before f f.ny (f.ny + 1)
some_right f at l = elim (cases_lt 0 (wires_before f f.ny (f.ny + 1))) [
  | inl some ↦ some
  | inr none ↦
      let empty : (f.nx + 1) * wires_before f f.ny (f.ny + 1) ≡ (f.nx + 1) * 0 = ap (λ n. (f.nx + 1) * n) (omega arith) in
      absurd (omega (arith, l, right_count f, empty))
]

-- what the look-up of a wire right of a column finds: step wires are in each column
pub record ColumnFound (f : Fabric) (at step : ℕ) : Type 0 where
  pub some : 0 < step
  pub next : at % step < wires_before f f.ny (f.ny + 1)
  pub found : (b : Beginning) → slice_get (beginnings_of f f.ny) (at % step) ≡ Some b → node_at f (kind_start f Chany + at) ≡ Some (node_of Chany (at / step) b.place b.track)

column_of_beginning : (f : Fabric) (at : ℕ) → at < kind_length f Chany → ColumnFound f at (wires_before f f.ny (f.ny + 1))
column_of_beginning f at l =
    let step = wires_before f f.ny (f.ny + 1) in
    let some = some_right f at l in
    record {
      some = some;
      next = mod-lt at some;
      found = λ b e.
          let begun = begins_at f f.ny (at % step) b e in
          let inside = place_within f f.ny b.place begun.index b.track begun.stands in
          let within : at < (f.nx + 1) * step = omega (arith, l, right_count f) in
          let column = (div-lt_iff_lt-mul some).1 within in
          found_right f at (at / step) b.place begun.index b.track (omega (arith, column)) inside.1 begun.stands (omega (arith, div-add-mod' at step, begun.number));
    }

pub column_of_number : (f : Fabric) (at : ℕ) → at < kind_length f Chany → ColumnFound f at (column_stride f)
column_of_number f at l = subst (ColumnFound f at) (one_at_least (wires_before f f.ny (f.ny + 1)) (some_right f at l)) (column_of_beginning f at l)

pub none_past : (f : Fabric) (i : ℕ) → node_count_of f ≤ i → node_at f i ≡ None
none_past f i l = slice_get_past (nodes_of f) i l
