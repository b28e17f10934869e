-- The successors of sources and of input pins, as lists.
use Rattle.std.proofs.Common.{◌≡◌, ℕ, ◌+◌, ◌<◌, inl, inr, Bool, true, false, cond, List, [], ◌∷◌, length, Option, Some, None, refl, sym, ap, ◌∙◌, subst, arith}
use Rattle.std.specs.Prelude.{◌&&◌, ◌==◌, nat_lt, slice_get, if◌then◌else◌}
use Rattle.std.specs.List.{flat_map, filter}
use Rattle.std.proofs.Math.Bool.{and-true}
use Rattle.std.proofs.lemmas.Bool.{cases_Bool, eq-eqb, eqb-true, and_parts, lt-ltb, false_from_ne_true}
use Rattle.std.proofs.lemmas.Bool.Decides.{nat_tests}
use Rattle.std.proofs.lemmas.Option.{none-some, slice_get_within, get_or_from_slice_get}
use Rattle.std.proofs.lemmas.List.FromFn.{length-range_with_len, get_or-range_with_len}
use Rattle.arch_file.specs.Architecture.{class_count, class_direction}
use Rattle.arch_file.specs.declared.entries.Direction.TheVariants.{Input, Output}
use Rattle.arch_file.specs.declared.entries.Pin.{Pin}
use Rattle.channel_tables.specs.declared.node.Kind.{Kind}
use Rattle.channel_tables.specs.declared.node.Kind.TheVariants.{Source, Sink, Opin, Ipin}
use Rattle.channel_tables.specs.declared.node.Node.{Node}
use Rattle.channel_tables.specs.Fabric.{Fabric, numbers_below, is_block, is_pad}
use Rattle.channel_tables.specs.Pins.{has_direction, classes_of, pins_of, has_class, belongs}
use Rattle.node_numbers.specs.Nodes.{terminals_at, numbers_at, node_of, node_at}
use Rattle.rr_edges.specs.Edges.{is_edge, successors_of}
use Rattle.channel_tables.specs.Picks.{picks}
use Rattle.node_numbers.specs.Starts.{place_start}
use Rattle.rr_edges.specs.kept.Pieces.{pieces_at, pieces_of_kind}
use Rattle.rr_edges.specs.kept.PinSuccessors.{pins_of_source, source_successors, sink_of_pin, ipin_successors}
use Rattle.channel_tables.proofs.Windows.{flat_map_one, flat_map_none}
use Rattle.channel_tables.proofs.Picks.{picks_agree, picks_none, picks_below, picks_filtered}
use Rattle.node_numbers.proofs.NodesByPlace.{place_of_node}
use Rattle.rr_edges.proofs.Pieces.{successors_of_source, successors_of_ipin}

-- ---- the numbers at a block and at a place of the perimeter
pub no_block_at_pad : (f : Fabric) (x y : ℕ) → is_pad f x y ≡ true → is_block f x y ≡ false
no_block_at_pad f x y h = grind (arith, nat_tests)

-- ---- a node whose edges to a kind all lead to one place
module _ (f : Fabric) (a : Node) (k : Kind) where
  pub no_pieces_at : (x y : ℕ) → ((n : ℕ) → is_edge f a (node_of k x y n) ≡ false) → pieces_at f a k x y ≡ []
  unfolding pieces_at
  no_pieces_at x y h = picks_none _ h (place_start f k x y) (numbers_at f k x y)

  pub no_pieces_of_kind : ((p r n : ℕ) → is_edge f a (node_of k p r n) ≡ false) → pieces_of_kind f a k ≡ []
  unfolding pieces_of_kind
  no_pieces_of_kind h = flat_map_none _ (f.nx + 2) (λ p l. flat_map_none _ (f.ny + 2) (λ r m. no_pieces_at p r (h p r)))

  pub pieces_of_one_place :
      (x y : ℕ) → x < f.nx + 2 → y < f.ny + 2 → ((p r n : ℕ) → is_edge f a (node_of k p r n) ≡ true → (p ≡ x) × (r ≡ y))
      → pieces_of_kind f a k ≡ pieces_at f a k x y
  unfolding pieces_of_kind
  pieces_of_one_place x y l m only =
      flat_map_one (λ p. flat_map (pieces_at f a k p) (numbers_below (f.ny + 2))) x (f.nx + 2) l
      (λ p _ differ. flat_map_none (pieces_at f a k p) (f.ny + 2)
      (λ r _. no_pieces_at p r (λ n. false_from_ne_true _ (λ e. differ (only p r n e).0))))
      ∙ flat_map_one (pieces_at f a k x) y (f.ny + 2) m (λ r _ differ. no_pieces_at x r (λ n. false_from_ne_true _ (λ e. differ (only x r n e).1)))

-- ---- pins and terminals of one place
module _ (f : Fabric) (x y : ℕ) where
  belongs_here :
      (j k : Kind) (p n : ℕ)
      → belongs f (node_of j x y p) (node_of k x y n) ≡ (if is_block f x y then has_class (slice_get f.architecture.pins p) n else p == n)
  unfolding belongs
  belongs_here j k p n = rw (eq-eqb x x refl, eq-eqb y y refl) refl

  belongs_at_block :
      is_block f x y ≡ true → (j k : Kind) (p n : ℕ) → belongs f (node_of j x y p) (node_of k x y n) ≡ has_class (slice_get f.architecture.pins p) n
  belongs_at_block b j k p n = belongs_here j k p n ∙ ap (λ c. cond c (has_class (slice_get f.architecture.pins p) n) (p == n)) b

  belongs_at_pad : is_block f x y ≡ false → (j k : Kind) (p n : ℕ) → belongs f (node_of j x y p) (node_of k x y n) ≡ (p == n)
  belongs_at_pad b j k p n = belongs_here j k p n ∙ ap (λ c. cond c (has_class (slice_get f.architecture.pins p) n) (p == n)) b

  terminals_at_block : is_block f x y ≡ true → (ns : List ℕ) → terminals_at f x y ns ≡ ns
  terminals_at_block b ns = ap (λ c. cond c ns (cond (is_pad f x y) (numbers_below f.architecture.io_rat) [])) b

  terminals_at_pad : is_pad f x y ≡ true → (ns : List ℕ) → terminals_at f x y ns ≡ numbers_below f.architecture.io_rat
  terminals_at_pad b ns =
      ap (λ c. cond c ns (cond (is_pad f x y) (numbers_below f.architecture.io_rat) [])) (no_block_at_pad f x y b)
      ∙ ap (λ c. cond c (numbers_below f.architecture.io_rat) []) b

  -- a number that is none of a block's is that of a pad
  pub pad_found :
      (ns : List ℕ) (j n : ℕ) → is_block f x y ≡ false → slice_get (terminals_at f x y ns) j ≡ Some n
      → (is_pad f x y ≡ true) × (n < f.architecture.io_rat)
  pad_found ns j n b h =
      let pads = numbers_below f.architecture.io_rat in
      let e = sym (ap (λ c. slice_get (cond c ns (cond (is_pad f x y) pads [])) j) b) ∙ h in
      elim (cases_Bool (is_pad f x y)) [
        | inl pad ↦
            let in_pads = sym (ap (λ c. slice_get (cond c pads []) j) pad) ∙ e in
            let within = slice_get_within pads j n in_pads in
            let below : j < f.architecture.io_rat = omega (arith, length-range_with_len 0 f.architecture.io_rat) in
            let same = get_or_from_slice_get pads j n n in_pads in
            (pad, omega (arith, get_or-range_with_len 0 f.architecture.io_rat j n below))
        | inr none ↦ absurd (none-some n (sym (ap (λ c. slice_get (cond c pads []) j) none) ∙ e))
      ]

  -- ---- a source
  module _ (class : ℕ) where
    pub pieces_of_source :
        x < f.nx + 2 → y < f.ny + 2
        → pieces_of_kind f (node_of Source x y class) Opin ≡ pieces_at f (node_of Source x y class) Opin x y
    unfolding is_edge belongs
    pieces_of_source l m = pieces_of_one_place f (node_of Source x y class) Opin x y l m (λ p r n e.
        let place = and_parts (p == x) (r == y) (and_parts (p == x && r == y) _ e).0 in (eqb-true p x place.0, eqb-true r y place.1))

    pub source_at_block :
        is_block f x y ≡ true
        → pieces_at f (node_of Source x y class) Opin x y
        ≡ picks (λ p. has_class (slice_get f.architecture.pins p) class) (place_start f Opin x y) (pins_of f.architecture Output)
    unfolding pieces_at is_edge numbers_at
    source_at_block b =
        picks_agree _ (λ p. has_class (slice_get f.architecture.pins p) class) (λ p. belongs_at_block b Opin Source p class) (place_start f Opin x y) _
        ∙ ap (picks _ (place_start f Opin x y)) (terminals_at_block b (pins_of f.architecture Output))

    pub source_at_pad :
        is_pad f x y ≡ true → class < f.architecture.io_rat → pieces_at f (node_of Source x y class) Opin x y ≡ (place_start f Opin x y + class) ∷ []
    unfolding pieces_at is_edge numbers_at
    source_at_pad b l =
        picks_agree _ (λ p. (p == class) && true)
        (λ p. belongs_at_pad (no_block_at_pad f x y b) Opin Source p class ∙ sym (and-true (p == class))) (place_start f Opin x y) _
        ∙ ap (picks _ (place_start f Opin x y)) (terminals_at_pad b (pins_of f.architecture Output))
        ∙ picks_below true class (place_start f Opin x y) f.architecture.io_rat
        ∙ ap (λ c. cond (c && true) ((place_start f Opin x y + class) ∷ []) []) (lt-ltb class f.architecture.io_rat l)

  -- ---- an input pin
  module _ (pin : ℕ) where
    pub pieces_of_ipin : x < f.nx + 2 → y < f.ny + 2 → pieces_of_kind f (node_of Ipin x y pin) Sink ≡ pieces_at f (node_of Ipin x y pin) Sink x y
    unfolding is_edge belongs
    pieces_of_ipin l m = pieces_of_one_place f (node_of Ipin x y pin) Sink x y l m (λ p r n e.
        let place = and_parts (x == p) (y == r) (and_parts (x == p && y == r) _ e).0 in (sym (eqb-true x p place.0), sym (eqb-true y r place.1)))

    same_number : (p n : ℕ) → (p == n) ≡ ((n == p) && true)
    same_number p n = grind (arith, nat_tests)

    sink_among : (q : Option Pin) → picks (λ n. has_class q n) (place_start f Sink x y) (classes_of f.architecture Input) ≡ sink_of_pin f q x y
    unfolding classes_of sink_of_pin
    sink_among None = picks_none (λ n. has_class None n) (λ n. refl) (place_start f Sink x y) (classes_of f.architecture Input)
    sink_among (Some q) =
        let input : ℕ → Bool = λ c. has_direction Input (class_direction f.architecture c) in
        let count = class_count f.architecture in
        let at = place_start f Sink x y + length (filter input (numbers_below q.class)) in
        picks_agree _ (λ n. (n == q.class) && true) (λ n. same_number q.class n) (place_start f Sink x y) (filter input (numbers_below count))
        ∙ picks_filtered input true q.class (place_start f Sink x y) count
        ∙ ap (λ c. cond (input q.class && c) (at ∷ []) []) (and-true (nat_lt q.class count))

    pub ipin_at_block :
        is_block f x y ≡ true → pieces_at f (node_of Ipin x y pin) Sink x y ≡ sink_of_pin f (slice_get f.architecture.pins pin) x y
    unfolding pieces_at is_edge numbers_at
    ipin_at_block b =
        picks_agree _ (λ n. has_class (slice_get f.architecture.pins pin) n) (λ n. belongs_at_block b Ipin Sink pin n) (place_start f Sink x y) _
        ∙ ap (picks _ (place_start f Sink x y)) (terminals_at_block b (classes_of f.architecture Input))
        ∙ sink_among (slice_get f.architecture.pins pin)

    pub ipin_at_pad :
        is_pad f x y ≡ true → pin < f.architecture.io_rat
        → pieces_at f (node_of Ipin x y pin) Sink x y ≡ (place_start f Sink x y + pin) ∷ []
    unfolding pieces_at is_edge numbers_at
    ipin_at_pad b l =
        picks_agree _ (λ n. (n == pin) && true)
        (λ n. belongs_at_pad (no_block_at_pad f x y b) Ipin Sink pin n ∙ same_number pin n) (place_start f Sink x y) _
        ∙ ap (picks _ (place_start f Sink x y)) (terminals_at_pad b (classes_of f.architecture Input))
        ∙ picks_below true pin (place_start f Sink x y) f.architecture.io_rat
        ∙ ap (λ c. cond (c && true) ((place_start f Sink x y + pin) ∷ []) []) (lt-ltb pin f.architecture.io_rat l)

-- ---- the successors of a node
module _ (f : Fabric) where
  source_at :
      (x y class j : ℕ) → slice_get (numbers_at f Source x y) j ≡ Some class
      → pieces_at f (node_of Source x y class) Opin x y ≡ source_successors f (node_of Source x y class)
  unfolding source_successors pins_of_source numbers_at
  source_at x y class j h =
      let at_pad : List ℕ = (place_start f Opin x y + class) ∷ [] in
      elim (cases_Bool (is_block f x y)) [
        | inl block ↦ source_at_block f x y class block ∙ sym (ap (λ c. cond c (pins_of_source f x y class) at_pad) block)
        | inr none ↦
            let pad = pad_found f x y (classes_of f.architecture Output) j class none h in
            source_at_pad f x y class pad.0 pad.1 ∙ sym (ap (λ c. cond c (pins_of_source f x y class) at_pad) none)
      ]

  ipin_at :
      (x y pin j : ℕ) → slice_get (numbers_at f Ipin x y) j ≡ Some pin
      → pieces_at f (node_of Ipin x y pin) Sink x y ≡ ipin_successors f (node_of Ipin x y pin)
  unfolding ipin_successors numbers_at
  ipin_at x y pin j h =
      let at_block = sink_of_pin f (slice_get f.architecture.pins pin) x y in
      let at_pad : List ℕ = (place_start f Sink x y + pin) ∷ [] in
      elim (cases_Bool (is_block f x y)) [
        | inl block ↦ ipin_at_block f x y pin block ∙ sym (ap (λ c. cond c at_block at_pad) block)
        | inr none ↦
            let pad = pad_found f x y (pins_of f.architecture Input) j pin none h in
            ipin_at_pad f x y pin pad.0 pad.1 ∙ sym (ap (λ c. cond c at_block at_pad) none)
      ]

  module _ (i : ℕ) (a : Node) (h : node_at f i ≡ Some a) where
    -- what holds of each node of a kind at its place holds of a
    pub by_place :
        (k : Kind) (P : Node → Type 0)
        → ((x y n j : ℕ) → x < f.nx + 2 → y < f.ny + 2 → slice_get (numbers_at f k x y) j ≡ Some n → P (node_of k x y n))
        → a.kind ≡ k → P a
    by_place k P g e =
        let d = place_of_node f i a h in
        subst (λ (k : Kind). P (node_of k a.x a.y a.number)) (sym e)
        (g a.x a.y a.number d.0 d.1 d.2 (ap (λ k. slice_get (numbers_at f k a.x a.y) d.0) (sym e) ∙ d.3))

    pub source_listed : a.kind ≡ Source → successors_of f i ≡ source_successors f a
    source_listed e =
        successors_of_source f i a h e
        ∙ by_place Source (λ b. pieces_of_kind f b Opin ≡ source_successors f b)
        (λ x y class j l m here. pieces_of_source f x y class l m ∙ source_at x y class j here) e

    pub ipin_listed : a.kind ≡ Ipin → successors_of f i ≡ ipin_successors f a
    ipin_listed e =
        successors_of_ipin f i a h e
        ∙ by_place Ipin (λ b. pieces_of_kind f b Sink ≡ ipin_successors f b)
        (λ x y pin j l m here. pieces_of_ipin f x y pin l m ∙ ipin_at x y pin j here) e
