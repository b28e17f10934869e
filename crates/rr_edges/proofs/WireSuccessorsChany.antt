-- The successors of a wire of a column's channel, as lists.
use Rattle.std.proofs.Common.{◌≡◌, ℕ, ◌+◌, ◌-◌, ◌<◌, ◌≤◌, ◌≢◌, ◌⊎◌, inl, inr, Bool, true, false, cond, List, [], ◌∷◌, ◌++◌, map, Some, refl, sym, ap, ◌∙◌, arith}
use Rattle.std.specs.Prelude.{◌==◌, ◌&&◌, ◌||◌, not, nat_le, nat_lt}
use Rattle.std.specs.List.{range_with_len, flat_map}
use Rattle.std.proofs.lemmas.Bool.Decides.{nat_tests}
use Rattle.std.proofs.lemmas.List.Concat.{flat_map_single}
use Rattle.arch_file.specs.declared.entries.Sides.{Sides}
use Rattle.channel_tables.specs.declared.node.Kind.TheVariants.{Chanx, Chany, Ipin}
use Rattle.channel_tables.specs.declared.node.Node.{Node}
use Rattle.channel_tables.specs.Fabric.{Fabric, IsFabric, numbers_below, is_between, is_block, is_pad}
use Rattle.channel_tables.specs.Wires.{tracks_in, begins, steps_of, last_of, places_of, runs_through}
use Rattle.node_numbers.specs.Nodes.{node_of, node_at}
use Rattle.rr_edges.specs.Edges.{successors_of}
use Rattle.rr_edges.specs.kept.Channels.{meeting_of, beside_of}
use Rattle.rr_edges.specs.kept.Pieces.{pieces_at, pieces_of_kind}
use Rattle.channel_tables.specs.Sides.{has_side}
use Rattle.node_numbers.specs.kept.WireIds.{wire_id}
use Rattle.rr_edges.specs.kept.WireSuccessors.{pins_beside}
use Rattle.channel_tables.proofs.Windows.{flat_map_one, flat_map_two, flat_map_none}
use Rattle.rr_edges.proofs.Pieces.{successors_of_chany}
use Rattle.channel_tables.proofs.TrackWires.{is_among, IsBeginning, IsLast, last_of-is}
use Rattle.rr_edges.proofs.Meetings.{meeting_of-is, beside_of-is}
use Rattle.rr_edges.proofs.Joins.{edge_joins, chany_joins_chanx, chany_joins_chany}
use Rattle.rr_edges.proofs.WireSuccessorsPins.{pin_piece, block_at, any_channel_of_pin, of_channel_of_pad}
use Rattle.rr_edges.proofs.WireSuccessors.{same_line, other_line, steps_reached, steps_passed, window_joined, meeting_joined, beside_joined, row_piece, column_piece}
use Rattle.node_numbers.proofs.WiresAtPlaces.{column_wire_at}

exchanged : (w b u v : Bool) → ((w && b) && (u && v)) ≡ ((w && v) && (b && u))
exchanged w b u v = grind arith

-- ---- tests on the places of pins, of a wire in column x that i says to run through the pin's row

-- one of the channels beside a pin at column p, which has the sides, has the wire
abbrev is_beside : (x p : ℕ) → Bool → ((Sides → Bool) → Bool) → Bool
is_beside x p i has =
    (has (λ s. s.top) && false) || ((has (λ s. s.bottom) && false) || ((has (λ s. s.right) && ((x == p) && i)) || (has (λ s. s.left) && ((x == p - 1) && i))))

left_of_wire : (x : ℕ) (i : Bool) (has : (Sides → Bool) → Bool) → 1 ≤ x → is_beside x x i has ≡ (i && has (λ s. s.right))
left_of_wire x i has l = grind (arith, nat_tests)

right_of_wire : (x : ℕ) (i : Bool) (has : (Sides → Bool) → Bool) → is_beside x (x + 1) i has ≡ (i && has (λ s. s.left))
right_of_wire x i has = grind (arith, nat_tests)

far_from_wire : (x p : ℕ) (i : Bool) (has : (Sides → Bool) → Bool) → 1 ≤ p → p ≢ x → p ≢ x + 1 → is_beside x p i has ≡ false
far_from_wire x p i has l differ more = grind (arith, nat_tests)

module _ (f : Fabric) (p q x y l : ℕ) (from : 1 ≤ y) (upto : l ≤ f.ny) (column : x ≤ f.nx) where
  abbrev is_inside : Bool
  is_inside = nat_le y q && nat_le q l

  -- the channel of a pad at (p, q) has the wire
  abbrev has_pad : Bool
  has_pad = cond (p == 0) ((x == 0) && is_inside) (cond (p == f.nx + 1) ((x == f.nx) && is_inside) (cond (q == 0) false false))

  pad_near : (p ≡ x) ⊎ (p ≡ x + 1) → is_block f p q ≡ false → is_pad f p q ≡ true → has_pad ≡ is_inside
  pad_near near block pad = grind (arith, nat_tests)

  pad_far : p ≢ x → p ≢ x + 1 → is_block f p q ≡ false → is_pad f p q ≡ true → has_pad ≡ false
  pad_far differ more block pad = grind (arith, nat_tests)

  corner_near : (p ≡ x) ⊎ (p ≡ x + 1) → is_block f p q ≡ false → is_pad f p q ≡ false → is_inside ≡ false
  corner_near near block pad = grind (arith, nat_tests)

module _ (f : Fabric) (x y t : ℕ) (here : IsBeginning f f.ny t y) (column : x ≤ f.nx) (below : t < tracks_in f.mode f.width) where
  abbrev wire : Node
  wire = node_of Chany x y t

  last-is : IsLast (begins f f.ny t) f.ny y (last_of f f.ny t y)
  last-is = last_of-is f f.ny t y here.upto

  -- ---- the wires of the rows' channels that touch its corners
  abbrev crossing : ℕ → List ℕ
  crossing q = map (λ r. wire_id f Chanx q r t) (range_with_len (y - 1) (steps_of f f.ny t y + 2))

  abbrev is_reached : ℕ → Bool
  is_reached r = nat_le (y - 1) r && nat_lt r (y - 1 + (steps_of f f.ny t y + 2))

  piece_crossing : 1 ≤ f.nx → (q r : ℕ) → pieces_at f wire Chanx q r ≡ cond (is_among (meeting_of f f.nx t x) q && is_reached r) (wire_id f Chanx q r t ∷ []) []
  piece_crossing some q r =
      let starts = is_between 1 f.nx q && begins f f.nx t q in
      let reached = nat_le y (r + 1) && nat_le r (last_of f f.ny t y) in
      let meets = nat_le q (x + 1) && nat_le x (last_of f f.nx t q) in
      row_piece f wire t q r (reached && meets) below (λ s. edge_joins Chany Chanx refl refl f x y t q r s ∙ chany_joins_chanx f x y t q r s)
      ∙ ap (λ b. cond b (wire_id f Chanx q r t ∷ []) [])
      (exchanged starts (nat_le r f.ny) reached meets
      ∙ ap (λ b. (starts && meets) && b) (steps_reached r y (steps_of f f.ny t y) f.ny here.from last-is.upto)
      ∙ ap (λ b. b && is_reached r) (sym (meeting_of-is f f.nx t x q some column)))

  column_crossing :
      1 ≤ f.nx → (q : ℕ)
      → flat_map (λ r. pieces_at f wire Chanx q r) (numbers_below (f.ny + 2)) ≡ cond (is_among (meeting_of f f.nx t x) q) (crossing q) []
  column_crossing some q =
      let steps = steps_of f f.ny t y in
      let meets = is_among (meeting_of f f.nx t x) q in
      window_joined _ (λ r. wire_id f Chanx q r t ∷ []) (y - 1) (steps + 2) (f.ny + 2) meets (omega (arith, here.from, last-is.upto)) (piece_crossing some q)
      ∙ ap (λ ns. cond meets ns []) (flat_map_single (λ r. wire_id f Chanx q r t) (range_with_len (y - 1) (steps + 2)))

  pub column_wires_crossing :
      1 ≤ f.nx
      → pieces_of_kind f (node_of Chany x y t) Chanx ≡
      flat_map (λ q. map (λ r. wire_id f Chanx q r t) (range_with_len (y - 1) (steps_of f f.ny t y + 2))) (meeting_of f f.nx t x)
  unfolding pieces_of_kind
  column_wires_crossing some = meeting_joined _ crossing f f.nx t x true some column (column_crossing some)

  -- ---- the wires next to it in its column
  abbrev beside : List ℕ
  beside = beside_of f f.ny t y (last_of f f.ny t y)

  abbrev starts_beside : ℕ → Bool
  starts_beside q = not (q == y) && (nat_le q (last_of f f.ny t y + 1) && nat_le y (last_of f f.ny t q + 1))

  piece_beside : (c q : ℕ) → pieces_at f wire Chany c q ≡
      cond (((is_between 1 f.ny q && begins f f.ny t q) && nat_le c f.nx) && ((c == x) && starts_beside q)) (wire_id f Chany c q t ∷ []) []
  piece_beside c q =
      column_piece f wire t c q ((c == x) && starts_beside q) below (λ s. edge_joins Chany Chany refl refl f x y t c q s ∙ chany_joins_chany f x y t c q s)

  pub column_wires_beside : pieces_of_kind f (node_of Chany x y t) Chany ≡ map (λ q. wire_id f Chany x q t) (beside_of f f.ny t y (last_of f f.ny t y))
  unfolding pieces_of_kind
  column_wires_beside =
      let starts = λ (q : ℕ). is_between 1 f.ny q && begins f f.ny t q in
      flat_map_one _ x (f.nx + 2) (omega arith)
      (λ c _ other. flat_map_none _ (f.ny + 2) (λ q _.
      piece_beside c q ∙ ap (λ b. cond b (wire_id f Chany c q t ∷ []) []) (other_line (starts q) (nat_le c f.nx) (starts_beside q) c x other)))
      ∙ beside_joined _ (λ q. wire_id f Chany x q t ∷ []) f f.ny t y here (λ q.
      piece_beside x q
      ∙ ap (λ b. cond b (wire_id f Chany x q t ∷ []) []) (same_line (starts q) (starts_beside q) x f.nx column ∙ sym (beside_of-is f f.ny t y q here)))
      ∙ flat_map_single (λ q. wire_id f Chany x q t) beside

  -- ---- the pins and pads that tap it, place by place
  abbrev runs_here : ℕ → Bool
  runs_here q = nat_le y q && nat_le q (last_of f f.ny t y)

  abbrev rights : ℕ → List ℕ
  rights q = pins_beside f (λ s. s.right) x q t

  abbrev lefts : ℕ → List ℕ
  lefts q = pins_beside f (λ s. s.left) (x + 1) q t

  pins_before : (q : ℕ) → pieces_at f wire Ipin x q ≡ cond (runs_here q) (rights q) []
  unfolding runs_through
  pins_before q =
      let l = last_of f f.ny t y in
      pin_piece f Chany x y t x q refl (λ s. s.right) (runs_here q)
      (λ block pin. any_channel_of_pin (runs_through f wire) pin x q ∙ left_of_wire x (runs_here q) (λ side. has_side side pin) (block_at f x q block).0)
      (λ block pad. of_channel_of_pad (runs_through f wire) f x q ∙ pad_near f x q x y l here.from last-is.upto column (inl refl) block pad)
      (λ block pad. corner_near f x q x y l here.from last-is.upto column (inl refl) block pad)

  pins_after : (q : ℕ) → pieces_at f wire Ipin (x + 1) q ≡ cond (runs_here q) (lefts q) []
  unfolding runs_through
  pins_after q =
      let l = last_of f f.ny t y in
      pin_piece f Chany x y t (x + 1) q refl (λ s. s.left) (runs_here q)
      (λ block pin. any_channel_of_pin (runs_through f wire) pin (x + 1) q ∙ right_of_wire x (runs_here q) (λ side. has_side side pin))
      (λ block pad. of_channel_of_pad (runs_through f wire) f (x + 1) q ∙ pad_near f (x + 1) q x y l here.from last-is.upto column (inr refl) block pad)
      (λ block pad. corner_near f (x + 1) q x y l here.from last-is.upto column (inr refl) block pad)

  pins_elsewhere : (p q : ℕ) → p ≢ x → p ≢ x + 1 → pieces_at f wire Ipin p q ≡ []
  unfolding runs_through
  pins_elsewhere p q differ more =
      let l = last_of f f.ny t y in
      pin_piece f Chany x y t p q refl (λ s. s.left) false
      (λ block pin.
      any_channel_of_pin (runs_through f wire) pin p q ∙ far_from_wire x p (runs_here q) (λ side. has_side side pin) (block_at f p q block).0 differ more)
      (λ block pad. of_channel_of_pad (runs_through f wire) f p q ∙ pad_far f p q x y l here.from last-is.upto column differ more block pad)
      (λ block pad. refl)

  along_wire : (g h : ℕ → List ℕ) → ((q : ℕ) → g q ≡ cond (runs_here q) (h q) []) → flat_map g (numbers_below (f.ny + 2)) ≡ flat_map h (places_of f f.ny t y)
  along_wire g h e =
      let steps = steps_of f f.ny t y in
      window_joined g h y (steps + 1) (f.ny + 2) true (omega (arith, last-is.upto)) (λ q. e q ∙ ap (λ b. cond b (h q) []) (steps_passed q y steps))

  pub column_wire_pins : pieces_of_kind f (node_of Chany x y t) Ipin ≡
      flat_map (λ q. pins_beside f (λ s. s.right) x q t) (places_of f f.ny t y)
      ++ flat_map (λ q. pins_beside f (λ s. s.left) (x + 1) q t) (places_of f f.ny t y)
  unfolding pieces_of_kind
  column_wire_pins =
      flat_map_two _ x (x + 1) (f.nx + 2) (omega arith) (omega arith) (λ p _ differ more. flat_map_none _ (f.ny + 2) (λ q _. pins_elsewhere p q differ more))
      ∙ ap (λ ns. ns ++ flat_map (pieces_at f wire Ipin (x + 1)) (numbers_below (f.ny + 2))) (along_wire (pieces_at f wire Ipin x) rights pins_before)
      ∙ ap (λ ns. flat_map rights (places_of f f.ny t y) ++ ns) (along_wire (pieces_at f wire Ipin (x + 1)) lefts pins_after)

-- the successors of a wire of a column: pins and pads, wires of rows, wires of the column
pub successors_of_column_wire :
    (f : Fabric) → IsFabric f → (i : ℕ) (a : Node) → node_at f i ≡ Some a → a.kind ≡ Chany
    → successors_of f i ≡
    (flat_map (λ q. pins_beside f (λ s. s.right) a.x q a.number) (places_of f f.ny a.number a.y)
    ++ flat_map (λ q. pins_beside f (λ s. s.left) (a.x + 1) q a.number) (places_of f f.ny a.number a.y))
    ++ (flat_map (λ q. map (λ r. wire_id f Chanx q r a.number) (range_with_len (a.y - 1) (steps_of f f.ny a.number a.y + 2)))
    (meeting_of f f.nx a.number a.x)
    ++ map (λ q. wire_id f Chany a.x q a.number) (beside_of f f.ny a.number a.y (last_of f f.ny a.number a.y)))
successors_of_column_wire f within i a h e =
    let at = column_wire_at f i a h e in
    let same : a ≡ node_of Chany a.x a.y a.number = ap (λ k. node_of k a.x a.y a.number) e in
    successors_of_chany f i a h e
    ∙ ap (λ b. pieces_of_kind f b Ipin ++ (pieces_of_kind f b Chanx ++ pieces_of_kind f b Chany)) same
    ∙ rw (
      column_wire_pins f a.x a.y a.number at.0 at.1 at.2,
      column_wires_crossing f a.x a.y a.number at.0 at.1 at.2 within.some_columns,
      column_wires_beside f a.x a.y a.number at.0 at.1 at.2,
    ) refl
