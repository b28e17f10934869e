-- The input pins and pads at one place that tap a wire.
use Rattle.std.proofs.Common.{◌≡◌, ℕ, ◌+◌, ◌-◌, ◌≤◌, inl, inr, Bool, true, false, cond, List, [], ◌∷◌, map, Option, Some, None, refl, sym, ap, ◌∙◌, arith}
use Rattle.std.specs.Prelude.{◌==◌, ◌&&◌, ◌||◌, not, slice_get}
use Rattle.std.specs.List.{list_any}
use Rattle.std.proofs.lemmas.Bool.{cases_Bool, false≢true}
use Rattle.std.proofs.lemmas.Bool.Decides.{nat_tests}
use Rattle.std.proofs.Math.Bool.{or-false}
use Rattle.std.proofs.lemmas.List.Folds.{list_any-append}
use Rattle.arch_file.specs.declared.entries.Direction.TheVariants.{Input}
use Rattle.arch_file.specs.declared.entries.Pin.{Pin}
use Rattle.arch_file.specs.declared.entries.Sides.{Sides}
use Rattle.channel_tables.specs.declared.node.Kind.{Kind}
use Rattle.channel_tables.specs.declared.node.Kind.TheVariants.{Chanx, Chany, Ipin}
use Rattle.channel_tables.specs.Fabric.{Fabric, numbers_below, is_block, is_pad}
use Rattle.channel_tables.specs.Wires.{Place, runs_through}
use Rattle.channel_tables.specs.Pins.{pins_of, tapped_tracks, is_marked_global, when, channels_of_pin, channel_of_pad, channels_beside, taps}
use Rattle.node_numbers.specs.Nodes.{numbers_at, node_of}
use Rattle.rr_edges.specs.Edges.{is_edge}
use Rattle.channel_tables.specs.Picks.{picks}
use Rattle.channel_tables.specs.Sides.{has_side, taps_on, tapping_pins, tapping_pads}
use Rattle.node_numbers.specs.Starts.{place_start}
use Rattle.rr_edges.specs.kept.Pieces.{pieces_at}
use Rattle.rr_edges.specs.kept.WireSuccessors.{pins_beside}
use Rattle.channel_tables.proofs.Picks.{picks_agree, picks_none, picks_shift}
use Rattle.rr_edges.proofs.Joins.{is_wire}

-- ---- tests on the channels beside a pin
any_when : (g : Place → Bool) (b : Bool) (p : Place) → list_any g (when b p) ≡ (b && g p)
any_when g true p = or-false (g p)
any_when g false p = refl

pub any_channel_of_pin : (g : Place → Bool) (pin : Option Pin) (x y : ℕ) → list_any g (channels_of_pin pin x y) ≡
    ((has_side (λ s. s.top) pin && g (Chanx, x, y)) || ((has_side (λ s. s.bottom) pin && g (Chanx, x, y - 1)) ||
    ((has_side (λ s. s.right) pin && g (Chany, x, y)) || (has_side (λ s. s.left) pin && g (Chany, x - 1, y)))))
any_channel_of_pin g None x y = refl
any_channel_of_pin g (Some p) x y = simp (list_any-append, any_when)

pub of_channel_of_pad : (g : Place → Bool) (f : Fabric) (x y : ℕ) → g (channel_of_pad f x y) ≡
    cond (x == 0) (g (Chany, 0, y)) (cond (x == f.nx + 1) (g (Chany, f.nx, y)) (cond (y == 0) (g (Chanx, x, 0)) (g (Chanx, x, f.ny))))
of_channel_of_pad g f x y = chosen (x == 0) (x == f.nx + 1) (y == 0)
  where
    chosen : (a b c : Bool) →
        g (cond a (Chany, 0, y) (cond b (Chany, f.nx, y) (cond c (Chanx, x, 0) (Chanx, x, f.ny))))
        ≡ cond a (g (Chany, 0, y)) (cond b (g (Chany, f.nx, y)) (cond c (g (Chanx, x, 0)) (g (Chanx, x, f.ny))))
    chosen true b c = refl
    chosen false true c = refl
    chosen false false true = refl
    chosen false false false = refl

pub block_at : (f : Fabric) (x y : ℕ) → is_block f x y ≡ true → (1 ≤ x) × (1 ≤ y)
block_at f x y block = (grind (arith, nat_tests), grind (arith, nat_tests))

-- ---- the pins or pads at one place
picks_when : {X : Type 0} (c : Bool) (test : X → Bool) (i : ℕ) (xs : List X) → picks (λ x. c && test x) i xs ≡ cond c (map (λ j. i + j) (picks test 0 xs)) []
picks_when true test i xs = let e : i ≡ i + 0 = omega arith in ap (λ j. picks test j xs) e ∙ picks_shift test i 0 xs
picks_when false test i xs = picks_none (λ x. false) (λ x. refl) i xs

module _ (f : Fabric) (side : Sides → Bool) (x y t : ℕ) where
  pub pins_of_block : is_block f x y ≡ true → pins_beside f side x y t ≡ map (λ j. place_start f Ipin x y + j) (tapping_pins f side t)
  unfolding pins_beside
  pins_of_block block = ap (λ b. map (λ j. place_start f Ipin x y + j) (cond b (tapping_pins f side t) (tapping_pads f t))) block

  pub pads_of_perimeter : is_block f x y ≡ false → pins_beside f side x y t ≡ map (λ j. place_start f Ipin x y + j) (tapping_pads f t)
  unfolding pins_beside
  pads_of_perimeter block = ap (λ b. map (λ j. place_start f Ipin x y + j) (cond b (tapping_pins f side t) (tapping_pads f t))) block

side_first : (m c s l : Bool) → (not m && ((c && s) && l)) ≡ (c && (not m && (s && l)))
side_first m c s l = grind arith

wire_to_pin : (k : Kind) → is_wire k ≡ true → (f : Fabric) (u v t p q n : ℕ) →
    is_edge f (node_of k u v t) (node_of Ipin p q n) ≡ taps f (node_of Ipin p q n) (node_of k u v t)
unfolding is_edge
wire_to_pin Chanx h f u v t p q n = refl
wire_to_pin Chany h f u v t p q n = refl
wire_to_pin _ h f u v t p q n = absurd (false≢true h)

module _ (f : Fabric) (k : Kind) (u v t p q : ℕ) (h : is_wire k ≡ true) where
  abbrev is_reached : Place → Bool
  is_reached = runs_through f (node_of k u v t)

  abbrev tap_by : (b : Bool) (n : ℕ) → Bool
  tap_by b n =
      not (b && is_marked_global (slice_get f.architecture.pins n))
      && (list_any is_reached (cond b (channels_of_pin (slice_get f.architecture.pins n) p q) (channel_of_pad f p q ∷ []))
      && list_any (λ s. s == t) (tapped_tracks f (cond b f.architecture.fc_input f.architecture.fc_pad) n))

  tap_at : (b : Bool) → is_block f p q ≡ b → (n : ℕ) → is_edge f (node_of k u v t) (node_of Ipin p q n) ≡ tap_by b n
  unfolding taps channels_beside
  tap_at b e n = wire_to_pin k h f u v t p q n ∙ ap (λ b. tap_by b n) e

  abbrev edge_to : ℕ → Bool
  edge_to n = is_edge f (node_of k u v t) (node_of Ipin p q n)

  abbrev taps_pad : ℕ → Bool
  taps_pad n = list_any (λ s. s == t) (tapped_tracks f f.architecture.fc_pad n)

  module _ (side : Sides → Bool) (c : Bool) where
    edge_to_pin :
        is_block f p q ≡ true → ((pin : Option Pin) → list_any is_reached (channels_of_pin pin p q) ≡ (c && has_side side pin))
        → (n : ℕ) → edge_to n ≡ (c && taps_on f side t n)
    edge_to_pin block reach n =
        let pin = slice_get f.architecture.pins n in
        let tapped = list_any (λ s. s == t) (tapped_tracks f f.architecture.fc_input n) in
        tap_at true block n
        ∙ ap (λ b. not (is_marked_global pin) && (b && tapped)) (reach pin)
        ∙ side_first (is_marked_global pin) c (has_side side pin) tapped

    edge_to_pad : is_block f p q ≡ false → is_reached (channel_of_pad f p q) ≡ c → (n : ℕ) → edge_to n ≡ (c && taps_pad n)
    edge_to_pad block reach n = tap_at false block n ∙ ap (λ b. b && taps_pad n) (or-false (is_reached (channel_of_pad f p q)) ∙ reach)

    at_block :
        is_block f p q ≡ true → ((pin : Option Pin) → list_any is_reached (channels_of_pin pin p q) ≡ (c && has_side side pin))
        → pieces_at f (node_of k u v t) Ipin p q ≡ cond c (pins_beside f side p q t) []
    unfolding pieces_at numbers_at tapping_pins
    at_block block reach =
        let start = place_start f Ipin p q in
        let pads : List ℕ = cond (is_pad f p q) (numbers_below f.architecture.io_rat) [] in
        ap (λ b. picks edge_to start (cond b (pins_of f.architecture Input) pads)) block
        ∙ picks_agree edge_to (λ n. c && taps_on f side t n) (edge_to_pin block reach) start (pins_of f.architecture Input)
        ∙ picks_when c (taps_on f side t) start (pins_of f.architecture Input)
        ∙ ap (λ ns. cond c ns []) (sym (pins_of_block f side p q t block))

    at_pads :
        is_block f p q ≡ false → is_pad f p q ≡ true → is_reached (channel_of_pad f p q) ≡ c
        → pieces_at f (node_of k u v t) Ipin p q ≡ cond c (pins_beside f side p q t) []
    unfolding pieces_at numbers_at tapping_pads
    at_pads block pad reach =
        let start = place_start f Ipin p q in
        let pads = numbers_below f.architecture.io_rat in
        ap (λ b. picks edge_to start (cond b (pins_of f.architecture Input) (cond (is_pad f p q) pads []))) block
        ∙ ap (λ b. picks edge_to start (cond b pads [])) pad
        ∙ picks_agree edge_to (λ n. c && taps_pad n) (edge_to_pad block reach) start pads
        ∙ picks_when c taps_pad start pads
        ∙ ap (λ ns. cond c ns []) (sym (pads_of_perimeter f side p q t block))

    at_corner :
        is_block f p q ≡ false → is_pad f p q ≡ false → c ≡ false
        → pieces_at f (node_of k u v t) Ipin p q ≡ cond c (pins_beside f side p q t) []
    unfolding pieces_at numbers_at
    at_corner block pad none =
        let start = place_start f Ipin p q in
        ap (λ b. picks edge_to start (cond b (pins_of f.architecture Input) (cond (is_pad f p q) (numbers_below f.architecture.io_rat) []))) block
        ∙ ap (λ b. picks edge_to start (cond b (numbers_below f.architecture.io_rat) [])) pad
        ∙ ap (λ b. cond b (pins_beside f side p q t) []) (sym none)

    -- those that tap the wire, where c says that its channel lies on the side
    pub pin_piece :
        (is_block f p q ≡ true → (pin : Option Pin) → list_any is_reached (channels_of_pin pin p q) ≡ (c && has_side side pin))
        → (is_block f p q ≡ false → is_pad f p q ≡ true → is_reached (channel_of_pad f p q) ≡ c)
        → (is_block f p q ≡ false → is_pad f p q ≡ false → c ≡ false)
        → pieces_at f (node_of k u v t) Ipin p q ≡ cond c (pins_beside f side p q t) []
    pin_piece of_block of_pads of_corner = elim (cases_Bool (is_block f p q)) [
      | inl block ↦ at_block block (of_block block)
      | inr block ↦ elim (cases_Bool (is_pad f p q)) [
        | inl pad ↦ at_pads block pad (of_pads block pad)
        | inr pad ↦ at_corner block pad (of_corner block pad)
      ]
    ]
