-- The successors of output pins, as lists: the wires that a pin taps.
use Rattle.std.proofs.Common.{◌≡◌, ◌≢◌, ℕ, ◌+◌, ◌-◌, ◌<◌, ◌≤◌, ◌⊎◌, inl, inr, Bool, true, false, cond, List, [], ◌++◌, Option, Some, None, refl, sym, ap, ◌∙◌, arith, append-nil}
use Rattle.std.specs.Prelude.{◌&&◌, ◌||◌, ◌==◌, not, nat_le, slice_get, if◌then◌else◌}
use Rattle.std.specs.List.{flat_map, list_any, range_with_len}
use Rattle.std.proofs.Math.Bool.{or-false}
use Rattle.std.proofs.lemmas.Bool.{cases_Bool, cases_eq, eq-eqb, ne_eqb, eqb-true, and_parts, leb-true}
use Rattle.std.proofs.lemmas.Bool.Decides.{nat_tests}
use Rattle.arch_file.specs.declared.entries.Direction.TheVariants.{Output}
use Rattle.arch_file.specs.declared.entries.Pin.{Pin}
use Rattle.channel_tables.specs.declared.node.Kind.{Kind}
use Rattle.channel_tables.specs.declared.node.Kind.TheVariants.{Opin, Chanx, Chany}
use Rattle.channel_tables.specs.declared.node.Node.{Node}
use Rattle.channel_tables.specs.Fabric.{Fabric, numbers_below, is_between, is_block, is_pad}
use Rattle.channel_tables.specs.Wires.{Place, last_of, runs_through, beginnings_at}
use Rattle.channel_tables.specs.Pins.{channels_of_pin, channel_of_pad, channels_beside, is_marked_global, pins_of, taps, when}
use Rattle.node_numbers.specs.Nodes.{numbers_at, node_of, node_at}
use Rattle.rr_edges.specs.Edges.{is_edge, successors_of}
use Rattle.channel_tables.specs.Picks.{picks}
use Rattle.node_numbers.specs.Starts.{place_start}
use Rattle.rr_edges.specs.kept.Pieces.{pieces_at, pieces_of_kind}
use Rattle.rr_edges.specs.kept.PinSuccessors.{taps_track, tapped_chanx, tapped_chany, tapped_row, tapped_column, tapped_rows, wires_of_pin, wires_of_pad, opin_successors}
use Rattle.channel_tables.proofs.Windows.{flat_map_same, flat_map_agree, flat_map_none, flat_map_window, flat_map_one, flat_map_two}
use Rattle.channel_tables.proofs.Picks.{picks_agree}
use Rattle.rr_edges.proofs.Pieces.{successors_of_opin}
use Rattle.rr_edges.proofs.PinSuccessors.{by_place, pad_found, no_block_at_pad, no_pieces_at, no_pieces_of_kind}

-- ---- the wires of a channel, where a test says which channels are beside the pin
past : (s w : Bool) (first place last : ℕ) → place < first → ((s && (nat_le first place && nat_le place last)) && w) ≡ false
past s w first place last l = grind (arith, nat_tests)

within : (w : Bool) (first place last : ℕ) → first ≤ place → ((nat_le first place && nat_le place last) && w) ≡ (nat_le place last && w)
within w first place last l = grind (arith, nat_tests)

module _ (f : Fabric) (a : Node) (fc pin : ℕ) where
  -- the edges to the wires that begin at (p, r): where s says that their channel is beside the pin,
  -- they lead to those that run through a place, on tracks that are tapped
  abbrev AreTapped : Kind → (p r : ℕ) (s : Bool) (first place : ℕ) (last : ℕ → ℕ) → Type 0
  AreTapped k p r s first place last =
      (t : ℕ) → is_edge f a (node_of k p r t) ≡ ((s && (nat_le first place && nat_le place (last t))) && taps_track f fc pin t)

  tapped_at :
      (k : Kind) (p r : ℕ) (s : Bool) (first place : ℕ) (last : ℕ → ℕ) (ns : List ℕ) → AreTapped k p r s first place last → first ≤ place
      → (s ≡ true → numbers_at f k p r ≡ ns)
      → pieces_at f a k p r ≡ cond s (picks (λ t. nat_le place (last t) && taps_track f fc pin t) (place_start f k p r) ns) []
  unfolding pieces_at
  tapped_at k p r true first place last ns h l same =
      picks_agree _ (λ t. nat_le place (last t) && taps_track f fc pin t) (λ t. h t ∙ within (taps_track f fc pin t) first place (last t) l)
      (place_start f k p r) _
      ∙ ap (picks _ (place_start f k p r)) (same refl)
  tapped_at k p r false first place last ns h l same = no_pieces_at f a k p r h

  tapped_past :
      (k : Kind) (p r : ℕ) (s : Bool) (first place : ℕ) (last : ℕ → ℕ) → AreTapped k p r s first place last → place < first → pieces_at f a k p r ≡ []
  tapped_past k p r s first place last h l = no_pieces_at f a k p r (λ t. h t ∙ past s (taps_track f fc pin t) first place (last t) l)

  no_numbers : (k : Kind) (p r : ℕ) → numbers_at f k p r ≡ [] → pieces_at f a k p r ≡ []
  unfolding pieces_at
  no_numbers k p r e = ap (picks _ (place_start f k p r)) e

  -- right of one column
  column_listed :
      (c y : ℕ) (s : Bool) → (s ≡ true → c ≤ f.nx) → y ≤ f.ny → ((r : ℕ) → AreTapped Chany c r s r y (λ t. last_of f f.ny t r))
      → flat_map (pieces_at f a Chany c) (numbers_below (f.ny + 2)) ≡ cond s (tapped_column f fc pin c y) []
  unfolding numbers_at tapped_column tapped_chany
  column_listed c y false in_columns in_rows h = flat_map_none _ (f.ny + 2) (λ r _. no_pieces_at f a Chany c r (h r))
  column_listed c y true in_columns in_rows h =
      let inside : c ≤ f.nx = in_columns refl in
      flat_map_window (pieces_at f a Chany c) 1 y (f.ny + 2) (omega arith)
      (λ r low. no_numbers Chany c r (ap (λ b. cond b (beginnings_at f f.ny r) []) (off c r low)))
      (λ r low high. tapped_past Chany c r true r y (λ t. last_of f f.ny t r) (h r) (omega arith))
      ∙ flat_map_agree (pieces_at f a Chany c) _ 1 y
      (λ r low high. tapped_at Chany c r true r y (λ t. last_of f f.ny t r) (beginnings_at f f.ny r) (h r) (omega arith)
      (λ _. ap (λ b. cond b (beginnings_at f f.ny r) []) (on c r inside low (omega arith))))
    where
      off : (c r : ℕ) → r < 1 → (nat_le c f.nx && is_between 1 f.ny r) ≡ false
      off c r l = grind (arith, nat_tests)

      on : (c r : ℕ) → c ≤ f.nx → 1 ≤ r → r ≤ f.ny → (nat_le c f.nx && is_between 1 f.ny r) ≡ true
      on c r i l m = grind (arith, nat_tests)

  columns_listed :
      (y : ℕ) (side : ℕ → Bool) → ((c : ℕ) → side c ≡ true → c ≤ f.nx) → y ≤ f.ny
      → ((c r : ℕ) → AreTapped Chany c r (side c) r y (λ t. last_of f f.ny t r))
      → pieces_of_kind f a Chany ≡ flat_map (λ c. cond (side c) (tapped_column f fc pin c y) []) (numbers_below (f.nx + 2))
  unfolding pieces_of_kind
  columns_listed y side in_columns in_rows h =
      flat_map_same _ _ (λ c. column_listed c y (side c) (in_columns c) in_rows (h c)) (numbers_below (f.nx + 2))

  -- above the rows, in turn for each column where wires begin
  rows_listed :
      (x : ℕ) (side : ℕ → Bool) → x ≤ f.nx → ((r : ℕ) → side r ≡ true → r ≤ f.ny)
      → ((p r : ℕ) → AreTapped Chanx p r (side r) p x (λ t. last_of f f.nx t p))
      → pieces_of_kind f a Chanx
      ≡ flat_map (λ p. flat_map (λ r. cond (side r) (tapped_chanx f fc pin x r p) []) (numbers_below (f.ny + 2))) (range_with_len 1 x)
  unfolding pieces_of_kind numbers_at tapped_chanx
  rows_listed x side in_columns in_rows h =
      flat_map_window (λ p. flat_map (pieces_at f a Chanx p) (numbers_below (f.ny + 2))) 1 x (f.nx + 2) (omega arith)
      (λ p low. flat_map_none _ (f.ny + 2) (λ r _. no_numbers Chanx p r (ap (λ b. cond b (beginnings_at f f.nx p) []) (off p r low))))
      (λ p low high. flat_map_none _ (f.ny + 2) (λ r _. tapped_past Chanx p r (side r) p x (λ t. last_of f f.nx t p) (h p r) (omega arith)))
      ∙ flat_map_agree _ _ 1 x (λ p low high. flat_map_same _ _
      (λ r. tapped_at Chanx p r (side r) p x (λ t. last_of f f.nx t p) (beginnings_at f f.nx p) (h p r) (omega arith)
      (λ e. ap (λ b. cond b (beginnings_at f f.nx p) []) (on p r low (omega arith) (in_rows r e)))) (numbers_below (f.ny + 2)))
    where
      off : (p r : ℕ) → p < 1 → (is_between 1 f.nx p && nat_le r f.ny) ≡ false
      off p r l = grind (arith, nat_tests)

      on : (p r : ℕ) → 1 ≤ p → p ≤ f.nx → r ≤ f.ny → (is_between 1 f.nx p && nat_le r f.ny) ≡ true
      on p r l m i = grind (arith, nat_tests)

-- one of two rows alone
pub tapped_rows_top : (f : Fabric) (fc pin c r : ℕ) → tapped_rows f fc pin c r false true ≡ tapped_row f fc pin c r
unfolding tapped_rows tapped_row
tapped_rows_top f fc pin c r = refl

pub tapped_rows_bottom : (f : Fabric) (fc pin c r : ℕ) → tapped_rows f fc pin c r true false ≡ tapped_row f fc pin c (r - 1)
unfolding tapped_rows tapped_row
tapped_rows_bottom f fc pin c r = flat_map_same _ _ (λ p. append-nil (tapped_chanx f fc pin c (r - 1) p)) (range_with_len 1 c)

-- ---- the channels beside a pin of a block
any_when : {X : Type 0} (p : X → Bool) (b : Bool) (x : X) (xs : List X) → list_any p (when b x ++ xs) ≡ ((b && p x) || list_any p xs)
any_when p true x xs = refl
any_when p false x xs = refl

any_one : {X : Type 0} (p : X → Bool) (b : Bool) (x : X) → list_any p (when b x) ≡ (b && p x)
any_one p true x = or-false (p x)
any_one p false x = refl

right_or_left : (t b r l u v m : Bool) → ((t && false) || ((b && false) || ((r && (u && m)) || (l && (v && m))))) ≡ (((r && u) || (l && v)) && m)
right_or_left t b r l u v m = grind arith

above_or_below : (t b r l u v m : Bool) → ((t && (u && m)) || ((b && (v && m)) || ((r && false) || (l && false)))) ≡ (((t && u) || (b && v)) && m)
above_or_below t b r l u v m = grind arith

module _ (f : Fabric) (x y : ℕ) (q : Pin) where
  any_channel :
      (p : Place → Bool)
      → list_any p (channels_of_pin (Some q) x y)
      ≡ ((q.sides.top && p (Chanx, x, y)) || ((q.sides.bottom && p (Chanx, x, y - 1))
      || ((q.sides.right && p (Chany, x, y)) || (q.sides.left && p (Chany, x - 1, y)))))
  any_channel p = rw (any_when, any_when, any_when, any_one) refl

  chany_beside :
      (c r t : ℕ)
      → list_any (runs_through f (node_of Chany c r t)) (channels_of_pin (Some q) x y)
      ≡ (((q.sides.right && c == x) || (q.sides.left && c == x - 1)) && (nat_le r y && nat_le y (last_of f f.ny t r)))
  unfolding runs_through
  chany_beside c r t = any_channel (runs_through f (node_of Chany c r t)) ∙ right_or_left q.sides.top q.sides.bottom q.sides.right q.sides.left _ _ _

  chanx_beside :
      (p r t : ℕ)
      → list_any (runs_through f (node_of Chanx p r t)) (channels_of_pin (Some q) x y)
      ≡ (((q.sides.top && r == y) || (q.sides.bottom && r == y - 1)) && (nat_le p x && nat_le x (last_of f f.nx t p)))
  unfolding runs_through
  chanx_beside p r t = any_channel (runs_through f (node_of Chanx p r t)) ∙ above_or_below q.sides.top q.sides.bottom q.sides.right q.sides.left _ _ _

module _ (f : Fabric) (x y pin : ℕ) where
  -- the wire runs through a channel beside the pin of the block at (x, y), on a track that it taps
  abbrev is_beside : Option Pin → Node → Bool
  is_beside o w = list_any (runs_through f w) (channels_of_pin o x y) && taps_track f f.architecture.fc_output pin w.number

  taps_at_block :
      (o : Option Pin) (w : Node) → is_block f x y ≡ true → slice_get f.architecture.pins pin ≡ o
      → taps f (node_of Opin x y pin) w ≡ (not (is_marked_global o) && is_beside o w)
  unfolding taps channels_beside
  taps_at_block o w b e = rw (b, e) refl

  taps_at_pad :
      (w : Node) → is_block f x y ≡ false
      → taps f (node_of Opin x y pin) w ≡ (runs_through f w (channel_of_pad f x y) && taps_track f f.architecture.fc_pad pin w.number)
  unfolding taps channels_beside
  taps_at_pad w b = rw (b, or-false (runs_through f w (channel_of_pad f x y))) refl

-- ---- the places where a list stands
one_place : (g : ℕ → List ℕ) (x n : ℕ) → x < n → flat_map (λ c. cond (c == x) (g c) []) (numbers_below n) ≡ g x
one_place g x n l =
    flat_map_one (λ c. cond (c == x) (g c) []) x n l (λ c _ differ. ap (λ b. cond b (g c) []) (ne_eqb c x differ))
    ∙ ap (λ b. cond b (g x) []) (eq-eqb x x refl)

-- the place x, by u, and the place before, by v
abbrev is_side : (u v : Bool) (x c : ℕ) → Bool
is_side u v x c = (u && c == x) || (v && c == x - 1)

side_upto : (u v : Bool) (x c : ℕ) → is_side u v x c ≡ true → c ≤ x
side_upto u v x c h = grind (arith, nat_tests)

side_at : (u v : Bool) (x : ℕ) → 1 ≤ x → is_side u v x x ≡ u
side_at u v x l = grind (arith, nat_tests)

side_before : (u v : Bool) (x : ℕ) → 1 ≤ x → is_side u v x (x - 1) ≡ v
side_before u v x l = grind (arith, nat_tests)

side_off : (u v : Bool) (x c : ℕ) → c ≢ x - 1 → c ≢ x → is_side u v x c ≡ false
side_off u v x c d e = grind (arith, nat_tests)

two_places :
    (g : ℕ → List ℕ) (u v : Bool) (x n : ℕ) → 1 ≤ x → x < n
    → flat_map (λ c. cond (is_side u v x c) (g c) []) (numbers_below n) ≡ cond v (g (x - 1)) [] ++ cond u (g x) []
two_places g u v x n l m =
    flat_map_two (λ c. cond (is_side u v x c) (g c) []) (x - 1) x n (omega arith) m
    (λ c _ d e. ap (λ b. cond b (g c) []) (side_off u v x c d e))
    ∙ ap (λ b. cond b (g (x - 1)) [] ++ cond (is_side u v x x) (g x) []) (side_before u v x l)
    ∙ ap (λ b. cond v (g (x - 1)) [] ++ cond b (g x) []) (side_at u v x l)

-- ---- pins and pads, by their places
record IsInside (f : Fabric) (x y : ℕ) : Type 0 where
  column_from : 1 ≤ x
  column_upto : x ≤ f.nx
  row_from : 1 ≤ y
  row_upto : y ≤ f.ny

block_inside : (f : Fabric) (x y : ℕ) → is_block f x y ≡ true → IsInside f x y
block_inside f x y b =
    let both = and_parts (is_between 1 f.nx x) (is_between 1 f.ny y) b in
    let column = and_parts (nat_le 1 x) (nat_le x f.nx) both.0 in
    let row = and_parts (nat_le 1 y) (nat_le y f.ny) both.1 in
    record {
      column_from = leb-true 1 x column.0;
      column_upto = leb-true x f.nx column.1;
      row_from = leb-true 1 y row.0;
      row_upto = leb-true y f.ny row.1;
    }

module _ (f : Fabric) (x y pin : ℕ) where
  -- the successors that are wires above rows, and those right of columns
  abbrev pub AreWires : (above right : List ℕ) → Type 0
  AreWires above right = (pieces_of_kind f (node_of Opin x y pin) Chanx ≡ above) × (pieces_of_kind f (node_of Opin x y pin) Chany ≡ right)

  untapped :
      ((w : Node) → taps f (node_of Opin x y pin) w ≡ false) → (k : Kind) (p r t : ℕ)
      → is_edge f (node_of Opin x y pin) (node_of k p r t) ≡ false
  unfolding is_edge
  untapped h Chanx p r t = h (node_of Chanx p r t)
  untapped h Chany p r t = h (node_of Chany p r t)
  untapped h _ p r t = refl

  module _ (b : is_block f x y ≡ true) where
    pub no_wires_of_global :
        (q : Pin) → slice_get f.architecture.pins pin ≡ Some q → q.global ≡ true → (k : Kind)
        → pieces_of_kind f (node_of Opin x y pin) k ≡ []
    no_wires_of_global q e g k =
        no_pieces_of_kind f (node_of Opin x y pin) k
        (untapped (λ w. taps_at_block f x y pin (Some q) w b e ∙ ap (λ c. not c && is_beside f x y pin (Some q) w) g) k)

    no_wires_of_none : slice_get f.architecture.pins pin ≡ None → (k : Kind) → pieces_of_kind f (node_of Opin x y pin) k ≡ []
    no_wires_of_none e k = no_pieces_of_kind f (node_of Opin x y pin) k (untapped (λ w. taps_at_block f x y pin None w b e) k)

    module _ (q : Pin) (e : slice_get f.architecture.pins pin ≡ Some q) (free : q.global ≡ false) where
      free_taps : (w : Node) → taps f (node_of Opin x y pin) w ≡ is_beside f x y pin (Some q) w
      free_taps w = taps_at_block f x y pin (Some q) w b e ∙ ap (λ c. not c && is_beside f x y pin (Some q) w) free

      pub chany_of_pin :
          pieces_of_kind f (node_of Opin x y pin) Chany
          ≡ (if q.sides.left then tapped_column f f.architecture.fc_output pin (x - 1) y else [])
          ++ (if q.sides.right then tapped_column f f.architecture.fc_output pin x y else [])
      unfolding is_edge
      chany_of_pin =
          let inside = block_inside f x y b in
          let fc = f.architecture.fc_output in
          columns_listed f (node_of Opin x y pin) fc pin y (is_side q.sides.right q.sides.left x)
          (λ c t. let upto = side_upto q.sides.right q.sides.left x c t in omega arith) inside.row_upto
          (λ c r t. free_taps (node_of Chany c r t) ∙ ap (λ s. s && taps_track f fc pin t) (chany_beside f x y q c r t))
          ∙ two_places (λ c. tapped_column f fc pin c y) q.sides.right q.sides.left x (f.nx + 2) inside.column_from (omega arith)

      pub chanx_of_pin : pieces_of_kind f (node_of Opin x y pin) Chanx ≡ tapped_rows f f.architecture.fc_output pin x y q.sides.bottom q.sides.top
      unfolding is_edge tapped_rows
      chanx_of_pin =
          let inside = block_inside f x y b in
          let fc = f.architecture.fc_output in
          rows_listed f (node_of Opin x y pin) fc pin x (is_side q.sides.top q.sides.bottom y) inside.column_upto
          (λ r t. let upto = side_upto q.sides.top q.sides.bottom y r t in omega arith)
          (λ p r t. free_taps (node_of Chanx p r t) ∙ ap (λ s. s && taps_track f fc pin t) (chanx_beside f x y q p r t))
          ∙ flat_map_same _ _
          (λ p. two_places (λ r. tapped_chanx f fc pin x r p) q.sides.top q.sides.bottom y (f.ny + 2) inside.row_from (omega arith))
          (range_with_len 1 x)

  -- ---- a pad beside a column or a row
  module _ (b : is_block f x y ≡ false) where
    beside_column :
        (c : ℕ) → channel_of_pad f x y ≡ (Chany, c, y) → c ≤ f.nx → y ≤ f.ny → AreWires [] (tapped_column f f.architecture.fc_pad pin c y)
    unfolding is_edge runs_through
    beside_column c e l m =
        let fc = f.architecture.fc_pad in
        let test = λ (w : Node). taps_at_pad f x y pin w b ∙ ap (λ ch. runs_through f w ch && taps_track f fc pin w.number) e in (
          no_pieces_of_kind f (node_of Opin x y pin) Chanx (λ p r t. test (node_of Chanx p r t)),
          columns_listed f (node_of Opin x y pin) fc pin y (λ k. k == c) (λ k t. let same = eqb-true k c t in omega arith) m
              (λ k r t. test (node_of Chany k r t))
              ∙ one_place (λ k. tapped_column f fc pin k y) c (f.nx + 2) (omega arith),
        )

    beside_row :
        (r : ℕ) → channel_of_pad f x y ≡ (Chanx, x, r) → x ≤ f.nx → r ≤ f.ny → AreWires (tapped_row f f.architecture.fc_pad pin x r) []
    unfolding is_edge runs_through tapped_row
    beside_row r e l m =
        let fc = f.architecture.fc_pad in
        let test = λ (w : Node). taps_at_pad f x y pin w b ∙ ap (λ ch. runs_through f w ch && taps_track f fc pin w.number) e in (
          rows_listed f (node_of Opin x y pin) fc pin x (λ k. k == r) l (λ k t. let same = eqb-true k r t in omega arith)
              (λ p k t. test (node_of Chanx p k t))
              ∙ flat_map_same _ _ (λ p. one_place (λ k. tapped_chanx f fc pin x k p) r (f.ny + 2) (omega arith)) (range_with_len 1 x),
          no_pieces_of_kind f (node_of Opin x y pin) Chany (λ p r t. test (node_of Chany p r t)),
        )

  module _ (pad : is_pad f x y ≡ true) where
    row_upto : (x ≡ 0) ⊎ (x ≡ f.nx + 1) → y ≤ f.ny
    row_upto h = grind (arith, nat_tests)

    column_upto : x ≢ 0 → x ≢ f.nx + 1 → x ≤ f.nx
    column_upto d e = grind (arith, nat_tests)

    pub pad_left : x ≡ 0 → AreWires [] (tapped_column f f.architecture.fc_pad pin 0 y)
    pad_left e =
        let left = eq-eqb x 0 e in
        beside_column (no_block_at_pad f x y pad) 0 (rw left refl) (omega arith) (row_upto (inl e))

    pub pad_right : x ≡ f.nx + 1 → AreWires [] (tapped_column f f.architecture.fc_pad pin f.nx y)
    pad_right e =
        let left = ne_eqb x 0 (λ d. omega arith) in
        let right = eq-eqb x (f.nx + 1) e in
        beside_column (no_block_at_pad f x y pad) f.nx (rw (left, right) refl) (omega arith) (row_upto (inr e))

    module _ (not_left : x ≢ 0) (not_right : x ≢ f.nx + 1) where
      pub pad_bottom : y ≡ 0 → AreWires (tapped_row f f.architecture.fc_pad pin x 0) []
      pad_bottom e =
          beside_row (no_block_at_pad f x y pad) 0 (rw (ne_eqb x 0 not_left, ne_eqb x (f.nx + 1) not_right, eq-eqb y 0 e) refl)
          (column_upto not_left not_right) (omega arith)

      pub pad_top : y ≢ 0 → AreWires (tapped_row f f.architecture.fc_pad pin x f.ny) []
      pad_top d =
          beside_row (no_block_at_pad f x y pad) f.ny (rw (ne_eqb x 0 not_left, ne_eqb x (f.nx + 1) not_right, ne_eqb y 0 d) refl)
          (column_upto not_left not_right) (omega arith)

-- ---- the successors of an output pin
module _ (f : Fabric) where
  abbrev pub wires_from : (x y pin : ℕ) → List ℕ
  wires_from x y pin = pieces_of_kind f (node_of Opin x y pin) Chanx ++ pieces_of_kind f (node_of Opin x y pin) Chany

  joined : (ms ns rs ss : List ℕ) → (ms ≡ rs) × (ns ≡ ss) → ms ++ ns ≡ rs ++ ss
  joined ms ns rs ss h = ap (λ ks. ks ++ ns) h.0 ∙ ap (λ ks. rs ++ ks) h.1

  pub opin_of_block :
      (x y pin : ℕ) (o : Option Pin) → is_block f x y ≡ true → slice_get f.architecture.pins pin ≡ o → wires_from x y pin ≡ wires_of_pin f o pin x y
  unfolding wires_of_pin
  opin_of_block x y pin None b e = joined _ _ [] [] (no_wires_of_none f x y pin b e Chanx, no_wires_of_none f x y pin b e Chany)
  opin_of_block x y pin (Some q) b e =
      let fc = f.architecture.fc_output in
      let rows = tapped_rows f fc pin x y q.sides.bottom q.sides.top in
      let columns : List ℕ = cond q.sides.left (tapped_column f fc pin (x - 1) y) [] ++ cond q.sides.right (tapped_column f fc pin x y) [] in
      elim (cases_Bool q.global) [
        | inl g ↦
            joined _ _ [] [] (no_wires_of_global f x y pin b q e g Chanx, no_wires_of_global f x y pin b q e g Chany)
            ∙ sym (ap (λ c. cond c [] (rows ++ columns)) g)
        | inr free ↦
            joined _ _ rows columns (chanx_of_pin f x y pin b q e free, chany_of_pin f x y pin b q e free)
            ∙ sym (ap (λ c. cond c [] (rows ++ columns)) free)
      ]

  pub opin_of_pad : (x y pad : ℕ) → is_pad f x y ≡ true → wires_from x y pad ≡ wires_of_pad f pad x y
  unfolding wires_of_pad
  opin_of_pad x y pad b =
      let fc = f.architecture.fc_pad in
      let row = λ (r : ℕ). tapped_row f fc pad x r in
      elim (cases_eq x 0) [
        | inl e ↦ joined _ _ [] _ (pad_left f x y pad b e) ∙ rw (eq-eqb x 0 e) refl
        | inr not_left ↦ elim (cases_eq x (f.nx + 1)) [
          | inl e ↦ joined _ _ [] _ (pad_right f x y pad b e) ∙ rw (ne_eqb x 0 not_left, eq-eqb x (f.nx + 1) e) refl
          | inr not_right ↦ elim (cases_eq y 0) [
            | inl e ↦ joined _ _ (row 0) [] (pad_bottom f x y pad b not_left not_right e) ∙ append-nil (row 0)
                ∙ rw (ne_eqb x 0 not_left, ne_eqb x (f.nx + 1) not_right, eq-eqb y 0 e) refl
            | inr d ↦ joined _ _ (row f.ny) [] (pad_top f x y pad b not_left not_right d) ∙ append-nil (row f.ny)
                ∙ rw (ne_eqb x 0 not_left, ne_eqb x (f.nx + 1) not_right, ne_eqb y 0 d) refl
          ]
        ]
      ]

  opin_at : (x y pin j : ℕ) → slice_get (numbers_at f Opin x y) j ≡ Some pin → wires_from x y pin ≡ opin_successors f (node_of Opin x y pin)
  unfolding opin_successors numbers_at
  opin_at x y pin j h =
      let at_block = wires_of_pin f (slice_get f.architecture.pins pin) pin x y in
      let at_pad = wires_of_pad f pin x y in
      elim (cases_Bool (is_block f x y)) [
        | inl block ↦ opin_of_block x y pin (slice_get f.architecture.pins pin) block refl ∙ sym (ap (λ c. cond c at_block at_pad) block)
        | inr none ↦
            opin_of_pad x y pin (pad_found f x y (pins_of f.architecture Output) j pin none h).0
            ∙ sym (ap (λ c. cond c at_block at_pad) none)
      ]

  pub opin_listed : (i : ℕ) (a : Node) → node_at f i ≡ Some a → a.kind ≡ Opin → successors_of f i ≡ opin_successors f a
  opin_listed i a h e =
      successors_of_opin f i a h e
      ∙ by_place f i a h Opin (λ b. pieces_of_kind f b Chanx ++ pieces_of_kind f b Chany ≡ opin_successors f b)
      (λ x y pin j _ _ here. opin_at x y pin j here) e
