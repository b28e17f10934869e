-- How many wires an output pin taps, and on which sides.
use Rattle.std.proofs.Common.{◌≡◌, ℕ, ◌+◌, ◌-◌, ◌*◌, ◌≤◌, inl, inr, Bool, true, false, cond, List, [], ◌∷◌, ◌++◌, length, Option, Some, None, refl, sym, ap, ◌∙◌, arith, length-append}
use Rattle.std.specs.Prelude.{◌==◌, if◌then◌else◌, slice_get}
use Rattle.std.specs.List.{range_with_len, filter, flat_map}
use Rattle.std.proofs.lemmas.Bool.{cases_Bool, eqb-true}
use Rattle.std.proofs.lemmas.Bool.Decides.{nat_tests}
use Rattle.std.proofs.lemmas.List.{append-nil}
use Rattle.arch_file.specs.declared.entries.Pin.{Pin}
use Rattle.arch_file.specs.declared.entries.Sides.{Sides}
use Rattle.channel_tables.specs.declared.axis.Axis.TheVariants.{Row, Column}
use Rattle.channel_tables.specs.declared.node.Kind.TheVariants.{Chanx, Chany}
use Rattle.channel_tables.specs.declared.node.Node.{Node}
use Rattle.channel_tables.specs.Fabric.{Fabric, is_block, is_pad}
use Rattle.channel_tables.specs.Wires.{tracks_in}
use Rattle.channel_tables.specs.Pins.{when}
use Rattle.channel_tables.specs.Channels.{first_of, tracks_from}
use Rattle.node_numbers.specs.kept.WireIds.{wire_id}
use Rattle.rr_edges.specs.kept.PinSuccessors.{taps_track, tapped_chanx, tapped_row, tapped_rows, tapped_column, wires_of_pin, wires_of_pad, opin_successors}
use Rattle.rr_edges.specs.kept.Terminals.{IsTerminal, tapped_wire, all_tracks, wires_on, AreSides, no_sides, sides_of_pin, sides_of_pad, opin_sides, opin_fc}
use Rattle.channel_tables.proofs.Lengths.{length_both}
use Rattle.channel_tables.proofs.Windows.{flat_map_agree, flat_map_empty}
use Rattle.rr_edges.proofs.OpinSuccessors.{tapped_rows_top, tapped_rows_bottom}
use Rattle.channel_tables.proofs.TrackOrder.{each_once}
use Rattle.rr_edges.proofs.OpinWires.{above_by_track, right_by_track, rows_none}

-- ---- each track that a pin taps has one wire through a place
when-joined : {X : Type 0} (p : ℕ → Bool) (g : ℕ → X) (ns : List ℕ) → length (flat_map (λ n. when (p n) (g n)) ns) ≡ length (filter p ns)
when-joined p g [] = refl
when-joined p g (n ∷ ns) = by_test (p n) (when-joined p g ns)
  where
    by_test : (b : Bool) → length (flat_map (λ n. when (p n) (g n)) ns) ≡ length (filter p ns)
        → length (when b (g n) ++ flat_map (λ n. when (p n) (g n)) ns) ≡ length (cond b (n ∷ filter p ns) (filter p ns))
    by_test true rest = omega (arith, rest)
    by_test false rest = rest

module _ (f : Fabric) (fc pin : ℕ) where
  abbrev pub tapped : ℕ
  tapped = length (filter (taps_track f fc pin) (all_tracks f))

  row_length : (column row : ℕ) → 1 ≤ column → column ≤ f.nx → length (flat_map (tapped_chanx f fc pin column row) (range_with_len 1 column)) ≡ tapped
  row_length column row l m =
      ap length (flat_map_agree _ (λ first. flat_map (tapped_wire Row f fc pin column row) (tracks_from f f.nx column first)) 1 column (λ first a b.
      above_by_track f fc pin column row first a (omega arith) m))
      ∙ each_once f f.nx column (tapped_wire Row f fc pin column row) l (tracks_in f.mode f.width)
      ∙ when-joined (taps_track f fc pin) (λ t. wire_id f Chanx (first_of f f.nx t column) row t) (all_tracks f)

  column_length : (column row : ℕ) → 1 ≤ row → row ≤ f.ny → length (tapped_column f fc pin column row) ≡ tapped
  unfolding tapped_column
  column_length column row l m =
      ap length (flat_map_agree _ (λ first. flat_map (tapped_wire Column f fc pin row column) (tracks_from f f.ny row first)) 1 row (λ first a b.
      right_by_track f fc pin column row first a (omega arith) m))
      ∙ each_once f f.ny row (tapped_wire Column f fc pin row column) l (tracks_in f.mode f.width)
      ∙ when-joined (taps_track f fc pin) (λ t. wire_id f Chany column (first_of f f.ny t row) t) (all_tracks f)

  side_length : (b : Bool) (xs : ℕ → List ℕ) (n : ℕ) → (b ≡ true → length (flat_map xs (range_with_len 1 n)) ≡ tapped)
      → length (flat_map (λ first. if b then xs first else []) (range_with_len 1 n)) ≡ (if b then 1 else 0) * tapped
  side_length true xs n h = omega (arith, h refl)
  side_length false xs n h = omega (arith, ap length (flat_map_empty {X = ℕ} (λ first. []) 1 n (λ k _ _. refl)))

  if_length : (b : Bool) (xs : List ℕ) → (b ≡ true → length xs ≡ tapped) → length (if b then xs else []) ≡ (if b then 1 else 0) * tapped
  if_length true xs h = omega (arith, h refl)
  if_length false xs h = omega arith

  -- so many on each side
  pub wires_on-length : (x y : ℕ) (s : Sides) → AreSides f x y s → length (wires_on f fc pin x y s) ≡
      tapped * ((if s.bottom then 1 else 0) + (if s.top then 1 else 0) + (if s.left then 1 else 0) + (if s.right then 1 else 0))
  unfolding tapped_rows
  wires_on-length x y s h =
      let bottoms : ℕ → List ℕ = λ first. if s.bottom then tapped_chanx f fc pin x (y - 1) first else [] in
      let tops : ℕ → List ℕ = λ first. if s.top then tapped_chanx f fc pin x y first else [] in
      let left : List ℕ = if s.left then tapped_column f fc pin (x - 1) y else [] in
      let right : List ℕ = if s.right then tapped_column f fc pin x y else [] in
      omega (
        arith,
        length-append (flat_map (λ first. bottoms first ++ tops first) (range_with_len 1 x)) (left ++ right),
        length-append left right,
        length_both bottoms tops (range_with_len 1 x),
        side_length s.bottom (tapped_chanx f fc pin x (y - 1)) x (λ e. let d = h.bottom e in row_length x (y - 1) d.0 d.1),
        side_length s.top (tapped_chanx f fc pin x y) x (λ e. let d = h.top e in row_length x y d.0 d.1),
        if_length s.left (tapped_column f fc pin (x - 1) y) (λ e. let d = h.left e in column_length (x - 1) y d.1 d.2),
        if_length s.right (tapped_column f fc pin x y) (λ e. let d = h.right e in column_length x y d.1 d.2),
      )

-- ---- the sides of an output pin
none_on : (f : Fabric) (fc pin x y : ℕ) → [] ≡ wires_on f fc pin x y no_sides
none_on f fc pin x y = sym (append-nil _ ∙ rows_none f fc pin x y)

on_pin : (f : Fabric) (o : Option Pin) (pin x y : ℕ) → wires_of_pin f o pin x y ≡ wires_on f f.architecture.fc_output pin x y (sides_of_pin o)
unfolding wires_of_pin
on_pin f None pin x y = none_on f f.architecture.fc_output pin x y
on_pin f (Some p) pin x y = by_global p.global
  where
    by_global : (b : Bool) → (if b then [] else wires_on f f.architecture.fc_output pin x y p.sides) ≡ wires_on f f.architecture.fc_output pin x y (if b then no_sides else p.sides)
    by_global true = none_on f f.architecture.fc_output pin x y
    by_global false = refl

on_pad : (f : Fabric) (pad x y : ℕ) → is_pad f x y ≡ true → wires_of_pad f pad x y ≡ wires_on f f.architecture.fc_pad pad x y (sides_of_pad f x y)
unfolding wires_of_pad
on_pad f pad x y h =
    let fc = f.architecture.fc_pad in
    let top : is_pad f x y ≡ true → (x == 0) ≡ false → (x == f.nx + 1) ≡ false → (y == 0) ≡ false → y ≡ f.ny + 1 = λ p a b c. grind (arith, nat_tests) in
    elim (cases_Bool (x == 0)) [
      | inl left ↦ (let e = eqb-true x 0 left in rw left (ap (λ k. tapped_column f fc pad k y) (sym e) ∙ sym (ap (λ ns. ns ++ tapped_column f fc pad x y) (rows_none f fc pad x y))))
      | inr inside ↦ elim (cases_Bool (x == f.nx + 1)) [
        | inl right ↦
            let e = eqb-true x (f.nx + 1) right in
            let k : f.nx ≡ x - 1 = omega arith in
            rw (inside, right) (ap (λ k. tapped_column f fc pad k y) k ∙ sym (ap (λ ns. ns ++ (tapped_column f fc pad (x - 1) y ++ [])) (rows_none f fc pad x y) ∙ append-nil _))
        | inr between ↦ elim (cases_Bool (y == 0)) [
          | inl low ↦
              let e = eqb-true y 0 low in
              rw (inside, between, low) (ap (λ k. tapped_row f fc pad x k) (sym e) ∙ sym (append-nil _ ∙ tapped_rows_top f fc pad x y))
          | inr up ↦
              let k : f.ny ≡ y - 1 = omega (arith, top h inside between up) in
              rw (inside, between, up) (ap (λ k. tapped_row f fc pad x k) k ∙ sym (append-nil _ ∙ tapped_rows_bottom f fc pad x y))
        ]
      ]
    ]

pad_sides : (f : Fabric) (x y : ℕ) → is_pad f x y ≡ true → AreSides f x y (sides_of_pad f x y)
pad_sides f x y h = elim (cases_Bool (x == 0)) [
  | inl left ↦
      rw left (record { bottom = λ e. cc; top = λ e. cc; left = λ e. cc; right = λ _. (grind (arith, nat_tests), grind (arith, nat_tests), grind (arith, nat_tests)) })
  | inr inside ↦ elim (cases_Bool (x == f.nx + 1)) [
    | inl right ↦
        rw (inside, right) (record { bottom = λ e. cc; top = λ e. cc; left = λ _. (grind (arith, nat_tests), grind (arith, nat_tests), grind (arith, nat_tests)); right = λ e. cc })
    | inr between ↦ elim (cases_Bool (y == 0)) [
      | inl low ↦
          rw (inside, between, low) (record { bottom = λ e. cc; top = λ _. (grind (arith, nat_tests), grind (arith, nat_tests), grind (arith, nat_tests)); left = λ e. cc; right = λ e. cc })
      | inr up ↦
          rw (inside, between, up) (record { bottom = λ _. (grind (arith, nat_tests), grind (arith, nat_tests), grind (arith, nat_tests)); top = λ e. cc; left = λ e. cc; right = λ e. cc })
    ]
  ]
]

pub opin_wires : (f : Fabric) (a : Node) → IsTerminal f a.x a.y a.number → opin_successors f a ≡ wires_on f (opin_fc f a) a.number a.x a.y (opin_sides f a)
unfolding opin_successors
opin_wires f a h = elim (cases_Bool (is_block f a.x a.y)) [
  | inl block ↦ rw block (on_pin f (slice_get f.architecture.pins a.number) a.number a.x a.y)
  | inr none ↦ rw none (on_pad f a.number a.x a.y (h.around none))
]

pub opin_sides_are : (f : Fabric) (a : Node) → IsTerminal f a.x a.y a.number → AreSides f a.x a.y (opin_sides f a)
opin_sides_are f a h = elim (cases_Bool (is_block f a.x a.y)) [
  | inl block ↦
      rw block (record {
        bottom = λ _. (grind (arith, nat_tests), grind (arith, nat_tests), grind (arith, nat_tests));
        top = λ _. (grind (arith, nat_tests), grind (arith, nat_tests), grind (arith, nat_tests));
        left = λ _. (grind (arith, nat_tests), grind (arith, nat_tests), grind (arith, nat_tests));
        right = λ _. (grind (arith, nat_tests), grind (arith, nat_tests), grind (arith, nat_tests));
      })
  | inr none ↦ rw none (pad_sides f a.x a.y (h.around none))
]
