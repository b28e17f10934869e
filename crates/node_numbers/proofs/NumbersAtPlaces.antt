-- The number of a node from its place, and none for what stands at no place.
use Rattle.std.proofs.Common.{◌≡◌, ℕ, ◌+◌, ◌-◌, ◌*◌, ◌<◌, ◌≤◌, Bool, true, false, cond, get_or, inl, inr, List, [], ◌∷◌, ◌++◌, length, Option, Some, None, refl, sym, ap, ◌∙◌, arith, zero-add}
use Rattle.std.specs.Prelude.{◌&&◌, ◌==◌, nat_le, nat_lt, if◌then◌else◌, slice_get}
use Rattle.std.specs.List.{range_with_len, filter, position, position_or_len}
use Rattle.std.proofs.lemmas.Bool.{and_parts, leb-true, ltb-true, lt-ltb, eq-eqb, eqb-true, cases_lt, false≢true}
use Rattle.std.proofs.lemmas.Bool.Decides.{nat_tests}
use Rattle.std.proofs.lemmas.Option.{slice_get_within, get_or_from_slice_get, slice_get-get_or, none-some}
use Rattle.std.proofs.lemmas.List.FromFn.{length-range_with_len, get_or-range_with_len}
use Rattle.std.proofs.lemmas.List.Sums.{fails_before_first}
use Rattle.std.proofs.lemmas.List.Quantifiers.{position-Some}
use Rattle.std.proofs.lemmas.List.{append_assoc}
use Rattle.std.proofs.lemmas.List.Elements.{filter-append}
use Rattle.channel_tables.specs.declared.node.Kind.{Kind}
use Rattle.channel_tables.specs.declared.node.Kind.TheVariants.{Source, Sink, Opin, Ipin, Chanx, Chany}
use Rattle.channel_tables.specs.declared.node.Node.{Node}
use Rattle.channel_tables.specs.Fabric.{Fabric, IsFabric, numbers_below, is_between, is_block, is_pad}
use Rattle.channel_tables.specs.Wires.{tracks_in, begins, last_of}
use Rattle.channel_tables.specs.LastPlaces.{last_by}
use Rattle.node_numbers.specs.Nodes.{numbers_at, node_of, node_at, is_wire, number_of}
use Rattle.node_numbers.specs.Starts.{kind_start, place_start}
use Rattle.node_numbers.specs.Numbering.{is_terminal, block_numbers}
use Rattle.channel_tables.specs.Channels.{starting_at, wires_before, wire_number, wire_at}
use Rattle.node_numbers.specs.kept.WireIds.{wire_id, beginnings_below}
use Rattle.channel_tables.proofs.Ranges.{kept_next}
use Rattle.channel_tables.proofs.Windows.{range-append, slice_get-append_right}
use Rattle.node_numbers.proofs.NodesByPlace.{node_at_place, place_of_node, node_count_by_kinds}
use Rattle.node_numbers.proofs.PlaceStarts.{above_start, right_start, numbers_of_terminal}
use Rattle.node_numbers.proofs.WiresAtPlaces.{row_wire_at, column_wire_at}
use Rattle.channel_tables.proofs.TrackWires.{IsBeginning, first_of_itself}
use Rattle.node_numbers.proofs.Order.{number_of_node, node_of_number, node_count_small}

-- the number of what stands at a place
pub number_at_place : (f : Fabric) → IsFabric f → (k : Kind) (x y j n : ℕ) → slice_get (numbers_at f k x y) j ≡ Some n → x < f.nx + 2 → y < f.ny + 2
    → number_of f (node_of k x y n) ≡ Some (place_start f k x y + j)
number_at_place f l k x y j n e p q = number_of_node f l (place_start f k x y + j) (node_of k x y n) (node_at_place f k x y j n e p q)

-- what is the node of no number has none
pub no_number : (f : Fabric) (a : Node) → ((i : ℕ) → node_at f i ≡ Some a → ⊥) → number_of f a ≡ None
no_number f a nowhere = cases (number_of f a) refl
  where
    cases : (o : Option ℕ) → number_of f a ≡ o → number_of f a ≡ None
    cases None e = e
    cases (Some i) e = absurd (nowhere i (node_of_number f i a e))

-- a number that is kept stands behind those below it that are kept
pub kept_at : (q : ℕ → Bool) (m t : ℕ) → q t ≡ true → t < m → slice_get (filter q (numbers_below m)) (length (filter q (numbers_below t))) ≡ Some t
kept_at q m t e l =
    let low = filter q (numbers_below t) in
    let rest = filter q (range_with_len (0 + (t + 1)) (m - (t + 1))) in
    let whole : t + 1 + (m - (t + 1)) ≡ m = omega arith in
    let split : filter q (numbers_below m) ≡ low ++ (t ∷ rest) =
    ap (λ n. filter q (numbers_below n)) (sym whole) ∙ ap (filter q) (range-append 0 (t + 1) (m - (t + 1)))
    ∙ filter-append q (numbers_below (t + 1)) (range_with_len (0 + (t + 1)) (m - (t + 1))) ∙ ap (λ xs. xs ++ rest) (sym (kept_next q t e)) ∙ append_assoc low (t ∷ []) rest in
    let none : length low ≡ length low + 0 = omega arith in
    ap (λ xs. slice_get xs (length low)) split ∙ ap (slice_get (low ++ (t ∷ rest))) none ∙ slice_get-append_right low (t ∷ rest) 0

-- ---- wires above rows
module _ (f : Fabric) (x y t : ℕ) (here : IsBeginning f f.nx t x) (row : y ≤ f.ny) where
  stands_above : t < tracks_in f.mode f.width → slice_get (numbers_at f Chanx x y) (beginnings_below f f.nx x t) ≡ Some t
  unfolding numbers_at
  stands_above o =
      let inside : (is_between 1 f.nx x && nat_le y f.ny) ≡ true = grind (arith, nat_tests, here.from, here.upto, row) in
      rw inside (kept_at (λ s. begins f f.nx s x) (tracks_in f.mode f.width) t here.begins_here o)

  pub number_above : IsFabric f → t < tracks_in f.mode f.width → number_of f (node_of Chanx x y t) ≡ Some (wire_id f Chanx x y t)
  unfolding wire_id
  number_above l o = number_at_place f l Chanx x y (beginnings_below f f.nx x t) t (stands_above o) (omega (arith, here.upto)) (omega (arith, row))

pub above_by_row : (f : Fabric) (x y t : ℕ) → y ≤ f.ny → wire_id f Chanx x y t ≡ wire_id f Chanx x 0 t + y * length (starting_at f f.nx x)
unfolding wire_id
above_by_row f x y t l = omega (arith, above_start f x y (omega arith), above_start f x 0 (omega arith))

pub above_first : (f : Fabric) (x t : ℕ) → wire_id f Chanx x 0 t ≡ kind_start f Chanx + (f.ny * wires_before f f.nx x + wire_number f f.nx x t)
unfolding wire_id wire_number
above_first f x t = omega (arith, above_start f x 0 (omega arith))

-- ---- wires right of columns
module _ (f : Fabric) (x y t : ℕ) (here : IsBeginning f f.ny t y) (column : x ≤ f.nx) where
  stands_right : t < tracks_in f.mode f.width → slice_get (numbers_at f Chany x y) (beginnings_below f f.ny y t) ≡ Some t
  unfolding numbers_at
  stands_right o =
      let inside : (nat_le x f.nx && is_between 1 f.ny y) ≡ true = grind (arith, nat_tests, here.from, here.upto, column) in
      rw inside (kept_at (λ s. begins f f.ny s y) (tracks_in f.mode f.width) t here.begins_here o)

  pub number_right : IsFabric f → t < tracks_in f.mode f.width → number_of f (node_of Chany x y t) ≡ Some (wire_id f Chany x y t)
  unfolding wire_id
  number_right l o = number_at_place f l Chany x y (beginnings_below f f.ny y t) t (stands_right o) (omega (arith, column)) (omega (arith, here.upto))

pub right_by_column : (f : Fabric) (x y t : ℕ) → x ≤ f.nx → wire_id f Chany x y t ≡ wire_id f Chany 0 y t + x * wires_before f f.ny (f.ny + 1)
unfolding wire_id
right_by_column f x y t l = omega (arith, right_start f x y l, right_start f 0 y (omega arith))

pub right_first : (f : Fabric) (y t : ℕ) → wire_id f Chany 0 y t ≡ kind_start f Chany + wire_number f f.ny y t
unfolding wire_id wire_number
right_first f y t = omega (arith, right_start f 0 y (omega arith))

-- ---- the last places of wires
pub last_above : (f : Fabric) (i : ℕ) (a : Node) → node_at f i ≡ Some a → a.kind ≡ Chanx → (wire_at f f.nx a.x a.number).last ≡ last_by a.kind f a
last_above f i a h e =
    let here = (row_wire_at f i a h e).0 in
    ap (last_of f f.nx a.number) (first_of_itself f f.nx a.number a.x here) ∙ ap (λ k. last_by k f a) (sym e)

pub last_right : (f : Fabric) (i : ℕ) (a : Node) → node_at f i ≡ Some a → a.kind ≡ Chany → (wire_at f f.ny a.y a.number).last ≡ last_by a.kind f a
last_right f i a h e =
    let here = (column_wire_at f i a h e).0 in
    ap (last_of f f.ny a.number) (first_of_itself f f.ny a.number a.y here) ∙ ap (λ k. last_by k f a) (sym e)

pub place_above : (f : Fabric) (i : ℕ) (a : Node) → node_at f i ≡ Some a → a.kind ≡ Chanx → (1 ≤ a.x) × (a.x ≤ f.nx)
place_above f i a h e = let here = (row_wire_at f i a h e).0 in (here.from, here.upto)

pub track_above : (f : Fabric) (i : ℕ) (a : Node) → node_at f i ≡ Some a → a.kind ≡ Chanx → a.number < tracks_in f.mode f.width
track_above f i a h e = (row_wire_at f i a h e).2

pub place_right : (f : Fabric) (i : ℕ) (a : Node) → node_at f i ≡ Some a → a.kind ≡ Chany → (1 ≤ a.y) × (a.y ≤ f.ny)
place_right f i a h e = let here = (column_wire_at f i a h e).0 in (here.from, here.upto)

pub track_right : (f : Fabric) (i : ℕ) (a : Node) → node_at f i ≡ Some a → a.kind ≡ Chany → a.number < tracks_in f.mode f.width
track_right f i a h e = (column_wire_at f i a h e).2

pub track_of_wire : (f : Fabric) (i : ℕ) (a : Node) → node_at f i ≡ Some a → is_wire a.kind ≡ true → a.number < tracks_in f.mode f.width
track_of_wire f i a h w = by_kind a.kind refl w where
  by_kind : (k : Kind) → a.kind ≡ k → is_wire k ≡ true → a.number < tracks_in f.mode f.width
  by_kind Source e w = absurd (false≢true w)
  by_kind Sink e w = absurd (false≢true w)
  by_kind Opin e w = absurd (false≢true w)
  by_kind Ipin e w = absurd (false≢true w)
  by_kind Chanx e w = track_above f i a h e
  by_kind Chany e w = track_right f i a h e

-- ---- as tests
abbrev pub is_wire_above : Fabric → (x y t : ℕ) → Bool
is_wire_above f x y t = (is_between 1 f.nx x && (nat_le y f.ny && nat_lt t (tracks_in f.mode f.width))) && begins f f.nx t x

abbrev pub is_wire_right : Fabric → (x y t : ℕ) → Bool
is_wire_right f x y t = (is_between 1 f.ny y && (nat_le x f.nx && nat_lt t (tracks_in f.mode f.width))) && begins f f.ny t y

record IsWireAt (n lines tracks place line t : ℕ) (b : Bool) : Type 0 where
  from : 1 ≤ place
  upto : place ≤ n
  line_in : line ≤ lines
  track_in : t < tracks
  begins_here : b ≡ true

wire_parts : (n lines tracks place line t : ℕ) (b : Bool) → ((is_between 1 n place && (nat_le line lines && nat_lt t tracks)) && b) ≡ true → IsWireAt n lines tracks place line t b
wire_parts n lines tracks place line t b e =
    let both = and_parts (is_between 1 n place && (nat_le line lines && nat_lt t tracks)) b e in
    let inside = and_parts (is_between 1 n place) (nat_le line lines && nat_lt t tracks) both.0 in
    let between = and_parts (nat_le 1 place) (nat_le place n) inside.0 in
    let rest = and_parts (nat_le line lines) (nat_lt t tracks) inside.1 in
    record { from = leb-true 1 place between.0; upto = leb-true place n between.1; line_in = leb-true line lines rest.0; track_in = ltb-true t tracks rest.1; begins_here = both.1 }

wire_whole : (n lines tracks place line t : ℕ) (b : Bool) → 1 ≤ place → place ≤ n → line ≤ lines → t < tracks → b ≡ true
    → ((is_between 1 n place && (nat_le line lines && nat_lt t tracks)) && b) ≡ true
wire_whole n lines tracks place line t b p q r s e = rw e (grind (arith, nat_tests))

pub some_above : (f : Fabric) (x y t : ℕ) → IsFabric f → is_wire_above f x y t ≡ true → number_of f (node_of Chanx x y t) ≡ Some (wire_id f Chanx x y t)
some_above f x y t l e =
    let p = wire_parts f.nx f.ny (tracks_in f.mode f.width) x y t (begins f f.nx t x) e in
    number_above f x y t (record { from = p.from; upto = p.upto; begins_here = p.begins_here }) p.line_in l p.track_in

pub none_above : (f : Fabric) (x y t : ℕ) → is_wire_above f x y t ≡ false → number_of f (node_of Chanx x y t) ≡ None
none_above f x y t e = no_number f (node_of Chanx x y t) (λ i h.
    let at = row_wire_at f i (node_of Chanx x y t) h refl in
    false≢true (sym e ∙ wire_whole f.nx f.ny (tracks_in f.mode f.width) x y t (begins f f.nx t x) at.0.from at.0.upto at.1 at.2 at.0.begins_here))

pub some_right : (f : Fabric) (x y t : ℕ) → IsFabric f → is_wire_right f x y t ≡ true → number_of f (node_of Chany x y t) ≡ Some (wire_id f Chany x y t)
some_right f x y t l e =
    let p = wire_parts f.ny f.nx (tracks_in f.mode f.width) y x t (begins f f.ny t y) e in
    number_right f x y t (record { from = p.from; upto = p.upto; begins_here = p.begins_here }) p.line_in l p.track_in

pub none_right : (f : Fabric) (x y t : ℕ) → is_wire_right f x y t ≡ false → number_of f (node_of Chany x y t) ≡ None
none_right f x y t e = no_number f (node_of Chany x y t) (λ i h.
    let at = column_wire_at f i (node_of Chany x y t) h refl in
    false≢true (sym e ∙ wire_whole f.ny f.nx (tracks_in f.mode f.width) y x t (begins f f.ny t y) at.0.from at.0.upto at.1 at.2 at.0.begins_here))

-- ---- terminals and pins
found_below : (xs : List ℕ) (j n : ℕ) → slice_get xs j ≡ Some n → position_or_len (λ m. m == n) xs < length xs
found_below xs j n e = elim (cases_lt (position_or_len (λ m. m == n) xs) (length xs)) [
  | inl l ↦ l
  | inr past ↦
      let within = slice_get_within xs j n e in
      let fails = fails_before_first (λ m. m == n) xs j n (omega arith) in
      absurd (false≢true (sym fails ∙ eq-eqb (get_or xs j n) n (get_or_from_slice_get xs j n n e)))
]

not_found : (xs : List ℕ) (j n : ℕ) → position (λ m. m == n) xs ≡ None → slice_get xs j ≡ Some n → ⊥
not_found xs j n none e =
    let here = ap (λ b. cond b (Some (position_or_len (λ m. m == n) xs)) None) (lt-ltb (position_or_len (λ m. m == n) xs) (length xs) (found_below xs j n e)) in
    none-some _ (sym none ∙ here)

pub found_at : (xs : List ℕ) (j n : ℕ) → position (λ m. m == n) xs ≡ Some j → (slice_get xs j ≡ Some n) × (j < length xs)
found_at xs j n e =
    let p = position-Some (λ m. m == n) xs j n e in
    (slice_get-get_or xs j n p.0 ∙ ap Some (eqb-true _ _ p.1), p.0)

pub block_within : (f : Fabric) (x y : ℕ) → is_block f x y ≡ true → (x < f.nx + 2) × (y < f.ny + 2)
block_within f x y e =
    let both = and_parts (is_between 1 f.nx x) (is_between 1 f.ny y) e in
    let column = and_parts (nat_le 1 x) (nat_le x f.nx) both.0 in
    let row = and_parts (nat_le 1 y) (nat_le y f.ny) both.1 in
    (omega (arith, leb-true x f.nx column.1), omega (arith, leb-true y f.ny row.1))

pub pad_within : (f : Fabric) (x y : ℕ) → is_pad f x y ≡ true → (x < f.nx + 2) × (y < f.ny + 2)
pad_within f x y e = (grind (arith, nat_tests), grind (arith, nat_tests))

pub number_itself : (m n : ℕ) → n < m → slice_get (numbers_below m) n ≡ Some n
number_itself m n l = slice_get-get_or (numbers_below m) n 0 (omega (arith, length-range_with_len 0 m)) ∙ ap Some (get_or-range_with_len 0 m n 0 l ∙ zero-add n)

number_only : (m j n : ℕ) → slice_get (numbers_below m) j ≡ Some n → n < m
number_only m j n e =
    let within = slice_get_within (numbers_below m) j n e in
    omega (arith, get_or_from_slice_get (numbers_below m) j n 0 e, get_or-range_with_len 0 m j 0 (omega (arith, length-range_with_len 0 m)), length-range_with_len 0 m)

no_pad : (pad : Bool) (m j n : ℕ) → (pad && nat_lt n m) ≡ false → slice_get (if pad then numbers_below m else []) j ≡ Some n → ⊥
no_pad true m j n e h = false≢true (sym e ∙ lt-ltb n m (number_only m j n h))
no_pad false m j n e h = none-some n h

module _ (f : Fabric) (k : Kind) (x y n : ℕ) (terminal : is_terminal k ≡ true) where
  pub if_block : (j : ℕ) → is_block f x y ≡ true → slice_get (numbers_at f k x y) j ≡ slice_get (block_numbers f k) j
  if_block j block =
      ap (λ xs. slice_get xs j) (numbers_of_terminal f k x y terminal) ∙ ap (λ b. slice_get (if b then block_numbers f k else (if is_pad f x y then numbers_below f.architecture.io_rat else [])) j) block

  pub if_perimeter : (j : ℕ) → is_block f x y ≡ false → slice_get (numbers_at f k x y) j ≡ slice_get (if is_pad f x y then numbers_below f.architecture.io_rat else []) j
  if_perimeter j block =
      ap (λ xs. slice_get xs j) (numbers_of_terminal f k x y terminal) ∙ ap (λ b. slice_get (if b then block_numbers f k else (if is_pad f x y then numbers_below f.architecture.io_rat else [])) j) block

  pub some_at_block : (j : ℕ) → IsFabric f → is_block f x y ≡ true → position (λ m. m == n) (block_numbers f k) ≡ Some j → number_of f (node_of k x y n) ≡ Some (place_start f k x y + j)
  some_at_block j l block e =
      let within = block_within f x y block in
      number_at_place f l k x y j n (if_block j block ∙ (found_at (block_numbers f k) j n e).0) within.0 within.1

  pub none_at_block : is_block f x y ≡ true → position (λ m. m == n) (block_numbers f k) ≡ None → number_of f (node_of k x y n) ≡ None
  none_at_block block e = no_number f (node_of k x y n) (λ i h.
      let placed = place_of_node f i (node_of k x y n) h in
      not_found (block_numbers f k) placed.0 n e (sym (if_block placed.0 block) ∙ placed.3))

  pub some_pad : IsFabric f → is_block f x y ≡ false → is_pad f x y ≡ true → n < f.architecture.io_rat → number_of f (node_of k x y n) ≡ Some (place_start f k x y + n)
  some_pad l block pad m =
      let within = pad_within f x y pad in
      let here = ap (λ b. slice_get (if b then numbers_below f.architecture.io_rat else []) n) pad in
      number_at_place f l k x y n n (if_perimeter n block ∙ here ∙ number_itself f.architecture.io_rat n m) within.0 within.1

  pub none_pad : is_block f x y ≡ false → (is_pad f x y && nat_lt n f.architecture.io_rat) ≡ false → number_of f (node_of k x y n) ≡ None
  none_pad block e = no_number f (node_of k x y n) (λ i h.
      let placed = place_of_node f i (node_of k x y n) h in
      no_pad (is_pad f x y) f.architecture.io_rat placed.0 n e (sym (if_perimeter placed.0 block) ∙ placed.3))

-- ---- bounds
pub small_start : (f : Fabric) → IsFabric f → (k : Kind) → kind_start f k < 8388608
unfolding kind_start
small_start f l Source = omega arith
small_start f l Sink = omega (arith, node_count_by_kinds f, node_count_small f l)
small_start f l Opin = omega (arith, node_count_by_kinds f, node_count_small f l)
small_start f l Ipin = omega (arith, node_count_by_kinds f, node_count_small f l)
small_start f l Chanx = omega (arith, node_count_by_kinds f, node_count_small f l)
small_start f l Chany = omega (arith, node_count_by_kinds f, node_count_small f l)
