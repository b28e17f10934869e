-- The nodes that a cut gives up or that run through its border: which they are, and for how many
-- nets they have room.
use Rattle.std.proofs.Common.{◌≡◌, ℕ, ◌+◌, ◌-◌, ◌*◌, ◌<◌, ◌≤◌, Bool, true, false, if◌then◌else◌, List, ◌++◌, length, map, Option, Some, None, refl, sym, ap, ◌∙◌, subst, arith}
use Rattle.std.specs.Prelude.{Contains, ◌==◌, nat_le, unwrap_or}
use Rattle.std.specs.List.{sum_by, filter, flat_map, range_with_len}
use Rattle.std.proofs.lemmas.Bool.{and_parts, both_ways, eqb-true, leb-true}
use Rattle.std.proofs.lemmas.Option.{slice_get_past}
use Rattle.std.proofs.lemmas.List.Elements.{Contains-append_left, Contains-append_right}
use Rattle.std.proofs.lemmas.List.FromFn.{length-range_with_len, get_or-range_with_len}
use Rattle.std.proofs.lemmas.List.Sums.{length-filter, sum_by-append}
use Rattle.rr_graph.specs.node.Mode.{Mode}
use Rattle.rr_graph.specs.node.Mode.TheVariants.{Detailed, Global}
use Rattle.rr_graph.specs.node.Kind.{Kind}
use Rattle.rr_graph.specs.node.Kind.TheVariants.{Source, Sink, Opin, Ipin, Chanx, Chany}
use Rattle.rr_graph.specs.node.Node.{Node}
use Rattle.rr_graph.specs.Fabric.{Fabric, IsFabric, numbers_below}
use Rattle.rr_graph.specs.Wires.{Place, runs_by, runs_through, tracks_in, last_of}
use Rattle.channel_tables.specs.Channels.{first_of}
use Rattle.channel_tables.proofs.TrackWires.{first_of_only, last_of-is}
use Rattle.rr_graph.specs.Nodes.{capacity_by, capacity_of, is_same, node_at, node_count_of, node_of, nodes_of, number_of, wire_capacity}
use Rattle.rr_graph.proofs.Order.{is_same-true, node_of_number, number_of_node}
use Rattle.routing_problem.proofs.WiresAtPlaces.{row_wire_at, column_wire_at}
use Rattle.route_tree.specs.Usage.{room_of}
use Rattle.width_bound.specs.Cuts.{Cut, border_size, is_border, is_given_up, places_of_array}
use Rattle.width_bound.proofs.Lists.{any_found, contains_joined, contains_kept, contains_mapped, sum_joined, sum_mapped}

-- ---- numbers in a range, places in an array
in_range : (a n x : ℕ) → a ≤ x → x < a + n → Contains (range_with_len a n) x
in_range a n x from below =
    (x - a, omega (arith, length-range_with_len a n), get_or-range_with_len a n (x - a) x (omega arith) ∙ omega arith)

row_place : (nx ny x y : ℕ) → 1 ≤ x → x ≤ nx → y ≤ ny → Contains (places_of_array nx ny) (Chanx, x, y)
unfolding places_of_array
row_place nx ny x y from upto row =
    Contains-append_left _ _ (Chanx, x, y)
    (contains_joined (λ y. map (λ x. (Chanx, x, y)) (range_with_len 1 nx)) (numbers_below (ny + 1)) y (Chanx, x, y) (in_range 0 (ny + 1) y (omega arith) (omega arith))
    (contains_mapped (λ x. (Chanx, x, y)) (range_with_len 1 nx) x (in_range 1 nx x from (omega arith))))

column_place : (nx ny x y : ℕ) → x ≤ nx → 1 ≤ y → y ≤ ny → Contains (places_of_array nx ny) (Chany, x, y)
unfolding places_of_array
column_place nx ny x y column from upto =
    Contains-append_right _ _ (Chany, x, y)
    (contains_joined (λ x. map (λ y. (Chany, x, y)) (range_with_len 1 ny)) (numbers_below (nx + 1)) x (Chany, x, y) (in_range 0 (nx + 1) x (omega arith) (omega arith))
    (contains_mapped (λ y. (Chany, x, y)) (range_with_len 1 ny) y (in_range 1 ny y from (omega arith))))

-- ---- the wire of a track through a place
abbrev through_by : Kind → Fabric → (x y t : ℕ) → Node
through_by Chany f x y t = node_of Chany x (first_of f f.ny t y) t
through_by _ f x y t = node_of Chanx (first_of f f.nx t x) y t

abbrev pub wire_through : Fabric → Place → (t : ℕ) → Node
wire_through f p t = through_by p.0 f p.1 p.2 t

-- a wire that runs through a place is that of its track
record IsThrough (f : Fabric) (p : Place) (n : Node) : Type 0 where
  track : n.number < tracks_in f.mode f.width
  same : n ≡ wire_through f p n.number
  there : Contains (places_of_array f.nx f.ny) p

same_row : (k : Kind) (x y t x' y' : ℕ) → k ≡ Chanx → x ≡ x' → y ≡ y' → node_of k x y t ≡ node_of Chanx x' y' t
same_row k x y t x' y' a b c = rw (a, b, c) refl

same_column : (k : Kind) (x y t x' y' : ℕ) → k ≡ Chany → x ≡ x' → y ≡ y' → node_of k x y t ≡ node_of Chany x' y' t
same_column k x y t x' y' a b c = rw (a, b, c) refl

through : (f : Fabric) (i : ℕ) (n : Node) → node_at f i ≡ Some n → (p : Place) → runs_through f n p ≡ true → IsThrough f p n
unfolding runs_through
through f i n h p e = by_kinds n.kind p.0 refl refl e
  where
    by_kinds : (j k : Kind) → n.kind ≡ j → p.0 ≡ k → runs_by j k f n p.1 p.2 ≡ true → IsThrough f p n
    by_kinds Chanx Chanx a b e =
        let parts = and_parts (n.y == p.2) _ e in
        let within = and_parts (nat_le n.x p.1) _ parts.1 in
        let wire = row_wire_at f i n h a in
        let last = last_of-is f f.nx n.number n.x wire.0.upto in
        let from = leb-true n.x p.1 within.0 in
        let upto = leb-true p.1 (last_of f f.nx n.number n.x) within.1 in
        let row = eqb-true n.y p.2 parts.0 in
        let some : 1 ≤ p.1 = omega (arith, from, wire.0.from) in
        let inside : p.1 ≤ f.nx = omega (arith, upto, last.upto) in
        let first = first_of_only f f.nx n.number p.1 n.x some inside wire.0 from upto in
        record {
          track = wire.2;
          same = same_row n.kind n.x n.y n.number (first_of f f.nx n.number p.1) p.2 a first row ∙ ap (λ k. through_by k f p.1 p.2 n.number) (sym b);
          there = subst (λ k. Contains (places_of_array f.nx f.ny) (k, p.1, p.2)) (sym b) (row_place f.nx f.ny p.1 p.2 some inside (omega (arith, wire.1, row)));
        }
    by_kinds Chany Chany a b e =
        let parts = and_parts (n.x == p.1) _ e in
        let within = and_parts (nat_le n.y p.2) _ parts.1 in
        let wire = column_wire_at f i n h a in
        let last = last_of-is f f.ny n.number n.y wire.0.upto in
        let from = leb-true n.y p.2 within.0 in
        let upto = leb-true p.2 (last_of f f.ny n.number n.y) within.1 in
        let column = eqb-true n.x p.1 parts.0 in
        let some : 1 ≤ p.2 = omega (arith, from, wire.0.from) in
        let inside : p.2 ≤ f.ny = omega (arith, upto, last.upto) in
        let first = first_of_only f f.ny n.number p.2 n.y some inside wire.0 from upto in
        record {
          track = wire.2;
          same = same_column n.kind n.x n.y n.number p.1 (first_of f f.ny n.number p.2) a column first ∙ ap (λ k. through_by k f p.1 p.2 n.number) (sym b);
          there = subst (λ k. Contains (places_of_array f.nx f.ny) (k, p.1, p.2)) (sym b) (column_place f.nx f.ny p.1 p.2 (omega (arith, wire.1, column)) some inside);
        }
    by_kinds _ _ a b e = absurd (both_ways false refl e)

-- ---- the nodes that stand in the way
abbrev pub is_pin : Kind → Bool
is_pin Opin = true
is_pin Ipin = true
is_pin _ = false

-- the number of a node; past all nodes for what is none
number_in : Fabric → Node → ℕ
number_in f n = unwrap_or (number_of f n) (node_count_of f)

number_of_pin : Fabric → Node → ℕ
number_of_pin f n = if is_pin n.kind then number_in f n else node_count_of f

wires_at : Fabric → Place → List ℕ
wires_at f p = map (λ t. number_in f (wire_through f p t)) (numbers_below (tracks_in f.mode f.width))

abbrev border_of : Fabric → Cut → List Place
border_of f cut = filter (is_border cut) (places_of_array f.nx f.ny)

-- the pins that are given up, and the wires through the places of the border
pub in_the_way : Fabric → Cut → List ℕ
in_the_way f cut = map (number_of_pin f) cut.pins ++ flat_map (wires_at f) (border_of f cut)

module _ (f : Fabric) (l : IsFabric f) (cut : Cut) where
  numbered : (a : ℕ) (n : Node) → node_at f a ≡ Some n → number_in f n ≡ a
  unfolding number_in
  numbered a n h = ap (λ o. unwrap_or o (node_count_of f)) (number_of_node f l a n h)

  module _ (a : ℕ) (n : Node) (h : node_at f a ≡ Some n) where
    pub wire_in_the_way : (p : Place) → runs_through f n p ≡ true → is_border cut p ≡ true → Contains (in_the_way f cut) a
    unfolding in_the_way wires_at
    wire_in_the_way p runs border =
        let at = through f a n h p runs in
        let same : number_in f (wire_through f p n.number) ≡ a = ap (number_in f) (sym at.same) ∙ numbered a n h in
        Contains-append_right (map (number_of_pin f) cut.pins) _ a
        (contains_joined (wires_at f) (border_of f cut) p a (contains_kept (is_border cut) (places_of_array f.nx f.ny) p at.there border)
        (subst (Contains (wires_at f p)) same
        (contains_mapped (λ t. number_in f (wire_through f p t)) (numbers_below (tracks_in f.mode f.width)) n.number (in_range 0 (tracks_in f.mode f.width) n.number (omega arith) (omega (arith, at.track))))))

    pub pin_in_the_way : is_pin n.kind ≡ true → is_given_up cut n ≡ true → Contains (in_the_way f cut) a
    unfolding in_the_way is_given_up number_of_pin
    pin_in_the_way pin given =
        let found = any_found (is_same n) cut.pins given in
        let same : number_of_pin f found.0 ≡ a =
        ap (number_of_pin f) (sym (is_same-true n found.0 found.2)) ∙ ap (λ b. if b then number_in f n else node_count_of f) pin ∙ numbered a n h in
        Contains-append_left _ (flat_map (wires_at f) (border_of f cut)) a (subst (Contains (map (number_of_pin f) cut.pins)) same (contains_mapped (number_of_pin f) cut.pins found.0 found.1))

-- ---- their room
abbrev pub room_at : Fabric → ℕ → ℕ
room_at f a = room_of f (node_at f a)

module _ (f : Fabric) where
  none_past : room_at f (node_count_of f) ≡ 0
  none_past = ap (room_of f) (slice_get_past (nodes_of f) (node_count_of f) (omega arith))

  room_of_number : (n : Node) → room_at f (number_in f n) ≤ capacity_of f n
  unfolding number_in
  room_of_number n = at (number_of f n) refl
    where
      at : (o : Option ℕ) → number_of f n ≡ o → room_of f (node_at f (unwrap_or o (node_count_of f))) ≤ capacity_of f n
      at None e = omega (arith, none_past)
      at (Some i) e = let same = ap (room_of f) (node_of_number f i n e) in omega (arith, same)

  pin_room : (n : Node) → room_at f (number_of_pin f n) ≤ 1
  unfolding number_of_pin
  pin_room n = at n.kind refl
    where
      at : (k : Kind) → n.kind ≡ k → room_at f (if is_pin k then number_in f n else node_count_of f) ≤ 1
      at Opin e = let room = room_of_number n in let one = ap (λ k. capacity_by k f n) e in omega (arith, room, one)
      at Ipin e = let room = room_of_number n in let one = ap (λ k. capacity_by k f n) e in omega (arith, room, one)
      at _ e = omega (arith, none_past)

  wire_room : (p : Place) (t : ℕ) → room_at f (number_in f (wire_through f p t)) ≤ wire_capacity f.mode f.width
  wire_room p t = at p.0
    where
      at : (k : Kind) → room_at f (number_in f (through_by k f p.1 p.2 t)) ≤ wire_capacity f.mode f.width
      at Chany = room_of_number (through_by Chany f p.1 p.2 t)
      at Source = room_of_number (through_by Source f p.1 p.2 t)
      at Sink = room_of_number (through_by Sink f p.1 p.2 t)
      at Opin = room_of_number (through_by Opin f p.1 p.2 t)
      at Ipin = room_of_number (through_by Ipin f p.1 p.2 t)
      at Chanx = room_of_number (through_by Chanx f p.1 p.2 t)

  -- all tracks of a place together have room for as many nets as the channel is wide
  tracks_room : (mode : Mode) (width : ℕ) → tracks_in mode width * wire_capacity mode width ≡ width
  tracks_room Detailed width = omega arith
  tracks_room Global width = omega arith

  place_room : (p : Place) → sum_by (room_at f) (wires_at f p) ≤ f.width
  unfolding wires_at
  place_room p =
      let all = sum_mapped (room_at f) (λ t. number_in f (wire_through f p t)) (wire_capacity f.mode f.width) (wire_room p) (numbers_below (tracks_in f.mode f.width)) in
      let tracks = ap (λ n. n * wire_capacity f.mode f.width) (length-range_with_len 0 (tracks_in f.mode f.width)) in
      omega (arith, all, tracks, tracks_room f.mode f.width)

  pub room_in_the_way : (cut : Cut) → sum_by (room_at f) (in_the_way f cut) ≤ length cut.pins + f.width * border_size f.nx f.ny cut
  unfolding in_the_way border_size
  room_in_the_way cut =
      let both = sum_by-append (room_at f) (map (number_of_pin f) cut.pins) (flat_map (wires_at f) (border_of f cut)) in
      let pins = sum_mapped (room_at f) (number_of_pin f) 1 pin_room cut.pins in
      let places = sum_joined (room_at f) (wires_at f) f.width place_room (border_of f cut) in
      let size = ap (λ n. n * f.width) (length-filter (is_border cut) (places_of_array f.nx f.ny)) in
      omega (arith, both, pins, places, size)
