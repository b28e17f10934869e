-- The successors of a wire of a row's channel, as lists.
use Rattle.std.proofs.Common.{◌≡◌, ℕ, ◌+◌, ◌-◌, ◌<◌, ◌≤◌, ◌≢◌, ◌⊎◌, inl, inr, Bool, true, false, cond, List, [], ◌∷◌, ◌++◌, map, Some, refl, sym, ap, ◌∙◌, arith}
use Rattle.std.specs.Prelude.{◌||◌, ◌==◌, ◌&&◌, not, nat_le}
use Rattle.std.specs.List.{range_with_len, flat_map}
use Rattle.std.proofs.lemmas.Bool.Decides.{nat_tests}
use Rattle.std.proofs.lemmas.List.Concat.{flat_map_single}
use Rattle.arch_file.specs.declared.entries.Sides.{Sides}
use Rattle.channel_tables.specs.declared.node.Kind.TheVariants.{Chanx, Chany, Ipin}
use Rattle.channel_tables.specs.declared.node.Node.{Node}
use Rattle.channel_tables.specs.Fabric.{Fabric, IsFabric, numbers_below, is_between, is_block, is_pad}
use Rattle.channel_tables.specs.Wires.{tracks_in, begins, steps_of, last_of, places_of, runs_through}
use Rattle.node_numbers.specs.Nodes.{node_of, node_at}
use Rattle.rr_edges.specs.Edges.{successors_of}
use Rattle.rr_edges.specs.kept.Channels.{meeting_of, beside_of}
use Rattle.rr_edges.specs.kept.Pieces.{pieces_at, pieces_of_kind}
use Rattle.channel_tables.specs.Sides.{has_side}
use Rattle.node_numbers.specs.kept.WireIds.{wire_id}
use Rattle.rr_edges.specs.kept.WireSuccessors.{pins_beside}
use Rattle.channel_tables.proofs.Windows.{flat_map_one, flat_map_two}
use Rattle.rr_edges.proofs.Pieces.{successors_of_chanx}
use Rattle.channel_tables.proofs.TrackWires.{is_among, IsBeginning, IsLast, last_of-is}
use Rattle.rr_edges.proofs.Meetings.{meeting_of-is, beside_of-is}
use Rattle.rr_edges.proofs.Joins.{edge_joins, chanx_joins_chanx, chanx_joins_chany}
use Rattle.rr_edges.proofs.WireSuccessorsPins.{pin_piece, block_at, any_channel_of_pin, of_channel_of_pad}
use Rattle.rr_edges.proofs.WireSuccessors.{same_line, other_line, steps_reached, steps_passed, window_joined, meeting_joined, beside_joined, row_piece, column_piece}
use Rattle.node_numbers.proofs.WiresAtPlaces.{row_wire_at}

exchanged : (w b u v : Bool) → ((w && b) && (u && v)) ≡ ((b && u) && (w && v))
exchanged w b u v = grind arith

-- ---- tests on the places of pins, of a wire in row y that i says to run through the pin's column

-- one of the channels beside a pin at row q, which has the sides, has the wire
abbrev is_beside : (y q : ℕ) → Bool → ((Sides → Bool) → Bool) → Bool
is_beside y q i has =
    (has (λ s. s.top) && ((y == q) && i)) || ((has (λ s. s.bottom) && ((y == q - 1) && i)) || ((has (λ s. s.right) && false) || (has (λ s. s.left) && false)))

below_wire : (y : ℕ) (i : Bool) (has : (Sides → Bool) → Bool) → 1 ≤ y → is_beside y y i has ≡ (i && has (λ s. s.top))
below_wire y i has l = grind (arith, nat_tests)

above_wire : (y : ℕ) (i : Bool) (has : (Sides → Bool) → Bool) → is_beside y (y + 1) i has ≡ (i && has (λ s. s.bottom))
above_wire y i has = grind (arith, nat_tests)

far_from_wire : (y q : ℕ) (i : Bool) (has : (Sides → Bool) → Bool) → 1 ≤ q → q ≢ y → q ≢ y + 1 → is_beside y q i has ≡ false
far_from_wire y q i has l differ more = grind (arith, nat_tests)

module _ (f : Fabric) (p q y x l : ℕ) (from : 1 ≤ x) (upto : l ≤ f.nx) (row : y ≤ f.ny) where
  abbrev is_inside : Bool
  is_inside = nat_le x p && nat_le p l

  -- the channel of a pad at (p, q) has the wire
  abbrev has_pad : Bool
  has_pad = cond (p == 0) false (cond (p == f.nx + 1) false (cond (q == 0) ((y == 0) && is_inside) ((y == f.ny) && is_inside)))

  pad_near : (q ≡ y) ⊎ (q ≡ y + 1) → is_block f p q ≡ false → is_pad f p q ≡ true → has_pad ≡ is_inside
  pad_near near block pad = grind (arith, nat_tests)

  pad_far : q ≢ y → q ≢ y + 1 → is_block f p q ≡ false → is_pad f p q ≡ true → has_pad ≡ false
  pad_far differ more block pad = grind (arith, nat_tests)

  corner_near : (q ≡ y) ⊎ (q ≡ y + 1) → is_block f p q ≡ false → is_pad f p q ≡ false → is_inside ≡ false
  corner_near near block pad = grind (arith, nat_tests)

cond-append : (b : Bool) (ns ms : List ℕ) → cond b ns [] ++ cond b ms [] ≡ cond b (ns ++ ms) []
cond-append true ns ms = refl
cond-append false ns ms = refl

module _ (f : Fabric) (x y t : ℕ) (here : IsBeginning f f.nx t x) (row : y ≤ f.ny) (below : t < tracks_in f.mode f.width) where
  abbrev wire : Node
  wire = node_of Chanx x y t

  last-is : IsLast (begins f f.nx t) f.nx x (last_of f f.nx t x)
  last-is = last_of-is f f.nx t x here.upto

  -- ---- the wires next to it in its row
  abbrev beside : List ℕ
  beside = beside_of f f.nx t x (last_of f f.nx t x)

  abbrev starts_beside : ℕ → Bool
  starts_beside q = not (q == x) && (nat_le q (last_of f f.nx t x + 1) && nat_le x (last_of f f.nx t q + 1))

  piece_beside : (q r : ℕ) → pieces_at f wire Chanx q r ≡
      cond (((is_between 1 f.nx q && begins f f.nx t q) && nat_le r f.ny) && ((r == y) && starts_beside q)) (wire_id f Chanx q r t ∷ []) []
  piece_beside q r =
      row_piece f wire t q r ((r == y) && starts_beside q) below (λ s. edge_joins Chanx Chanx refl refl f x y t q r s ∙ chanx_joins_chanx f x y t q r s)

  column_beside : (q : ℕ) → flat_map (λ r. pieces_at f wire Chanx q r) (numbers_below (f.ny + 2)) ≡ cond (is_among beside q) (wire_id f Chanx q y t ∷ []) []
  column_beside q =
      let begins_here = is_between 1 f.nx q && begins f f.nx t q in
      flat_map_one (λ r. pieces_at f wire Chanx q r) y (f.ny + 2) (omega arith)
      (λ r _ other. piece_beside q r ∙ ap (λ b. cond b (wire_id f Chanx q r t ∷ []) []) (other_line begins_here (nat_le r f.ny) (starts_beside q) r y other))
      ∙ piece_beside q y
      ∙ ap (λ b. cond b (wire_id f Chanx q y t ∷ []) []) (same_line begins_here (starts_beside q) y f.ny row ∙ sym (beside_of-is f f.nx t x q here))

  pub row_wires_beside : pieces_of_kind f (node_of Chanx x y t) Chanx ≡ map (λ q. wire_id f Chanx q y t) (beside_of f f.nx t x (last_of f f.nx t x))
  unfolding pieces_of_kind
  row_wires_beside =
      beside_joined _ (λ q. wire_id f Chanx q y t ∷ []) f f.nx t x here column_beside ∙ flat_map_single (λ q. wire_id f Chanx q y t) beside

  -- ---- the wires of the columns' channels that touch its corners
  abbrev crossing : ℕ → List ℕ
  crossing c = map (λ q. wire_id f Chany c q t) (meeting_of f f.ny t y)

  abbrev is_reached : ℕ → Bool
  is_reached c = nat_le c f.nx && (nat_le x (c + 1) && nat_le c (last_of f f.nx t x))

  piece_crossing : 1 ≤ f.ny → (c q : ℕ) → pieces_at f wire Chany c q ≡ cond (is_reached c && is_among (meeting_of f f.ny t y) q) (wire_id f Chany c q t ∷ []) []
  piece_crossing some c q =
      let reached = nat_le x (c + 1) && nat_le c (last_of f f.nx t x) in
      let meets = nat_le q (y + 1) && nat_le y (last_of f f.ny t q) in
      column_piece f wire t c q (reached && meets) below (λ s. edge_joins Chanx Chany refl refl f x y t c q s ∙ chanx_joins_chany f x y t c q s)
      ∙ ap (λ b. cond b (wire_id f Chany c q t ∷ []) [])
      (exchanged (is_between 1 f.ny q && begins f f.ny t q) (nat_le c f.nx) reached meets
      ∙ ap (λ b. is_reached c && b) (sym (meeting_of-is f f.ny t y q some row)))

  column_crossing : 1 ≤ f.ny → (c : ℕ) → flat_map (λ q. pieces_at f wire Chany c q) (numbers_below (f.ny + 2)) ≡ cond (is_reached c) (crossing c) []
  column_crossing some c =
      meeting_joined _ (λ q. wire_id f Chany c q t ∷ []) f f.ny t y (is_reached c) some row (piece_crossing some c)
      ∙ ap (λ ns. cond (is_reached c) ns []) (flat_map_single (λ q. wire_id f Chany c q t) (meeting_of f f.ny t y))

  pub row_wires_crossing :
      1 ≤ f.ny
      → pieces_of_kind f (node_of Chanx x y t) Chany ≡
      flat_map (λ c. map (λ q. wire_id f Chany c q t) (meeting_of f f.ny t y)) (range_with_len (x - 1) (steps_of f f.nx t x + 2))
  unfolding pieces_of_kind
  row_wires_crossing some =
      let steps = steps_of f f.nx t x in
      window_joined _ crossing (x - 1) (steps + 2) (f.nx + 2) true (omega (arith, here.from, last-is.upto))
      (λ c. column_crossing some c ∙ ap (λ b. cond b (crossing c) []) (steps_reached c x steps f.nx here.from last-is.upto))

  -- ---- the pins and pads that tap it, place by place
  abbrev runs_here : ℕ → Bool
  runs_here p = nat_le x p && nat_le p (last_of f f.nx t x)

  abbrev tops : ℕ → List ℕ
  tops p = pins_beside f (λ s. s.top) p y t

  abbrev bottoms : ℕ → List ℕ
  bottoms p = pins_beside f (λ s. s.bottom) p (y + 1) t

  pins_under : (p : ℕ) → pieces_at f wire Ipin p y ≡ cond (runs_here p) (tops p) []
  unfolding runs_through
  pins_under p =
      let l = last_of f f.nx t x in
      pin_piece f Chanx x y t p y refl (λ s. s.top) (runs_here p)
      (λ block pin. any_channel_of_pin (runs_through f wire) pin p y ∙ below_wire y (runs_here p) (λ side. has_side side pin) (block_at f p y block).1)
      (λ block pad. of_channel_of_pad (runs_through f wire) f p y ∙ pad_near f p y y x l here.from last-is.upto row (inl refl) block pad)
      (λ block pad. corner_near f p y y x l here.from last-is.upto row (inl refl) block pad)

  pins_over : (p : ℕ) → pieces_at f wire Ipin p (y + 1) ≡ cond (runs_here p) (bottoms p) []
  unfolding runs_through
  pins_over p =
      let l = last_of f f.nx t x in
      pin_piece f Chanx x y t p (y + 1) refl (λ s. s.bottom) (runs_here p)
      (λ block pin. any_channel_of_pin (runs_through f wire) pin p (y + 1) ∙ above_wire y (runs_here p) (λ side. has_side side pin))
      (λ block pad. of_channel_of_pad (runs_through f wire) f p (y + 1) ∙ pad_near f p (y + 1) y x l here.from last-is.upto row (inr refl) block pad)
      (λ block pad. corner_near f p (y + 1) y x l here.from last-is.upto row (inr refl) block pad)

  pins_elsewhere : (p q : ℕ) → q ≢ y → q ≢ y + 1 → pieces_at f wire Ipin p q ≡ []
  unfolding runs_through
  pins_elsewhere p q differ more =
      let l = last_of f f.nx t x in
      pin_piece f Chanx x y t p q refl (λ s. s.top) false
      (λ block pin.
      any_channel_of_pin (runs_through f wire) pin p q ∙ far_from_wire y q (runs_here p) (λ side. has_side side pin) (block_at f p q block).1 differ more)
      (λ block pad. of_channel_of_pad (runs_through f wire) f p q ∙ pad_far f p q y x l here.from last-is.upto row differ more block pad)
      (λ block pad. refl)

  pins_of_column : (p : ℕ) → flat_map (λ q. pieces_at f wire Ipin p q) (numbers_below (f.ny + 2)) ≡ cond (runs_here p) (tops p ++ bottoms p) []
  pins_of_column p =
      flat_map_two _ y (y + 1) (f.ny + 2) (omega arith) (omega arith) (λ q _. pins_elsewhere p q)
      ∙ ap (λ ns. ns ++ pieces_at f wire Ipin p (y + 1)) (pins_under p) ∙ ap (λ ns. cond (runs_here p) (tops p) [] ++ ns) (pins_over p)
      ∙ cond-append (runs_here p) (tops p) (bottoms p)

  pub row_wire_pins : pieces_of_kind f (node_of Chanx x y t) Ipin ≡
      flat_map (λ p. pins_beside f (λ s. s.top) p y t ++ pins_beside f (λ s. s.bottom) p (y + 1) t) (places_of f f.nx t x)
  unfolding pieces_of_kind
  row_wire_pins =
      let steps = steps_of f f.nx t x in
      window_joined _ (λ p. tops p ++ bottoms p) x (steps + 1) (f.nx + 2) true (omega (arith, last-is.upto))
      (λ p. pins_of_column p ∙ ap (λ b. cond b (tops p ++ bottoms p) []) (steps_passed p x steps))

-- the successors of a wire of a row: pins and pads, wires of the row, wires of columns
pub successors_of_row_wire :
    (f : Fabric) → IsFabric f → (i : ℕ) (a : Node) → node_at f i ≡ Some a → a.kind ≡ Chanx
    → successors_of f i ≡
    flat_map (λ p. pins_beside f (λ s. s.top) p a.y a.number ++ pins_beside f (λ s. s.bottom) p (a.y + 1) a.number) (places_of f f.nx a.number a.x)
    ++ (map (λ q. wire_id f Chanx q a.y a.number) (beside_of f f.nx a.number a.x (last_of f f.nx a.number a.x))
    ++ flat_map (λ c. map (λ q. wire_id f Chany c q a.number) (meeting_of f f.ny a.number a.y))
    (range_with_len (a.x - 1) (steps_of f f.nx a.number a.x + 2)))
successors_of_row_wire f within i a h e =
    let at = row_wire_at f i a h e in
    let same : a ≡ node_of Chanx a.x a.y a.number = ap (λ k. node_of k a.x a.y a.number) e in
    successors_of_chanx f i a h e
    ∙ ap (λ b. pieces_of_kind f b Ipin ++ (pieces_of_kind f b Chanx ++ pieces_of_kind f b Chany)) same
    ∙ rw (
      row_wire_pins f a.x a.y a.number at.0 at.1 at.2,
      row_wires_beside f a.x a.y a.number at.0 at.1 at.2,
      row_wires_crossing f a.x a.y a.number at.0 at.1 at.2 within.some_rows,
    ) refl
