-- The capacities of nodes: at least 1, and exactly 1 for pins and wires of a detailed device.
use Rattle.std.proofs.Common.{◌≡◌, ℕ, ◌+◌, ◌<◌, ◌≤◌, inl, inr, Option, zero, suc, Bool, true, false, cond, List, [], ◌∷◌, Some, None, if◌then◌else◌, refl, sym, ap, ◌∙◌, subst, arith}
use Rattle.std.specs.Prelude.{◌==◌, count_by, slice_get}
use Rattle.std.specs.List.{filter, find}
use Rattle.std.specs.Option.{option_map}
use Rattle.std.proofs.lemmas.Bool.{both_ways, cases_lt}
use Rattle.std.proofs.lemmas.List.Sums.{sum_by-cons}
use Rattle.std.proofs.lemmas.Option.{none-some, same_Some}
use Rattle.arch_file.specs.Architecture.{Architecture, class_size, class_direction}
use Rattle.arch_file.specs.declared.entries.Direction.{Direction}
use Rattle.arch_file.specs.declared.entries.Direction.TheVariants.{Input, Output}
use Rattle.arch_file.specs.declared.entries.Pin.{Pin}
use Rattle.channel_tables.specs.declared.node.Kind.{Kind}
use Rattle.channel_tables.specs.declared.node.Kind.TheVariants.{Source, Sink, Opin, Ipin, Chanx, Chany}
use Rattle.channel_tables.specs.declared.node.Mode.{Mode}
use Rattle.channel_tables.specs.declared.node.Mode.TheVariants.{Detailed, Global}
use Rattle.channel_tables.specs.declared.node.Node.{Node}
use Rattle.channel_tables.specs.Fabric.{Fabric, IsFabric, numbers_below, is_block, is_pad}
use Rattle.channel_tables.specs.Pins.{has_direction, classes_of}
use Rattle.node_numbers.specs.Nodes.{numbers_at, node_at, node_count_of, capacity_by, capacity_of, wire_capacity, terminals_at}
use Rattle.node_numbers.specs.Starts.{kind_start}
use Rattle.node_numbers.proofs.NodesByPlace.{kind_within, node_count_by_kinds, place_of_node}

-- an element that a filter keeps passes its test
kept_here : (test : ℕ → Bool) (m : ℕ) (kept : List ℕ) (n : ℕ) → ((j : ℕ) → slice_get kept j ≡ Some n → test n ≡ true) →
    (t : Bool) → test m ≡ t → (j : ℕ) → slice_get (if t then m ∷ kept else kept) j ≡ Some n → test n ≡ true
kept_here test m kept n rest true h zero e = subst (λ k. test k ≡ true) (same_Some m n e) h
kept_here test m kept n rest true h (suc j) e = rest j e
kept_here test m kept n rest false h j e = rest j e

pub kept_passes : (test : ℕ → Bool) (ns : List ℕ) (j n : ℕ) → slice_get (filter test ns) j ≡ Some n → test n ≡ true
kept_passes test [] j n e = absurd (none-some n e)
kept_passes test (m ∷ ns) j n e = kept_here test m (filter test ns) n (λ i h. kept_passes test ns i n h) (test m) refl j e

-- if one is found, one is counted
none_directed : (d : Direction) → has_direction d None ≡ true → ⊥
none_directed Input e = both_ways false refl e
none_directed Output e = both_ways false refl e

counted_here : (test : Pin → Bool) (p : Pin) (ps : List Pin) (d : Direction) →
    (has_direction d (option_map (λ q. q.direction) (find test ps)) ≡ true → 1 ≤ count_by test ps) →
    (t : Bool) → test p ≡ t → has_direction d (option_map (λ q. q.direction) (if t then Some p else find test ps)) ≡ true →
    1 ≤ cond (test p) 1 0 + count_by test ps
counted_here test p ps d rest true h e = subst (λ t. 1 ≤ cond t 1 0 + count_by test ps) (sym h) (omega arith)
counted_here test p ps d rest false h e = let more = rest e in omega (arith, more)

found_counted : (test : Pin → Bool) (ps : List Pin) (d : Direction) →
    has_direction d (option_map (λ p. p.direction) (find test ps)) ≡ true → 1 ≤ count_by test ps
found_counted test [] d e = absurd (none_directed d e)
found_counted test (p ∷ ps) d e =
    let counted = sum_by-cons (λ q. cond (test q) 1 0) p ps in
    let some = counted_here test p ps d (found_counted test ps d) (test p) refl e in
    omega (arith, counted, some)

-- a class of a direction has a pin
class_sized : (a : Architecture) (d : Direction) (j class : ℕ) → slice_get (classes_of a d) j ≡ Some class → 1 ≤ class_size a class
unfolding classes_of
class_sized a d j class e = found_counted (λ p. p.class == class) a.pins d (kept_passes (λ c. has_direction d (class_direction a c)) _ j class e)

wire_room : (mode : Mode) (width : ℕ) → 1 ≤ width → 1 ≤ wire_capacity mode width
wire_room Detailed width l = omega arith
wire_room Global width l = l

module _ (f : Fabric) (within : IsFabric f) (i : ℕ) (n : Node) (h : node_at f i ≡ Some n) where
  terminal_room : (d : Direction) (j : ℕ) → slice_get (terminals_at f n.x n.y (classes_of f.architecture d)) j ≡ Some n.number →
      (b : Bool) → is_block f n.x n.y ≡ b → 1 ≤ (if b then class_size f.architecture n.number else 1)
  terminal_room d j e true block =
      class_sized f.architecture d j n.number
      (ap (λ b. slice_get (if b then classes_of f.architecture d else (if is_pad f n.x n.y then numbers_below f.architecture.io_rat else [])) j) (sym block) ∙ e)
  terminal_room d j e false block = omega arith

  by_kind : (k : Kind) → n.kind ≡ k → 1 ≤ capacity_by k f n
  unfolding numbers_at
  by_kind Source e =
      let d = place_of_node f i n h in
      terminal_room Output d.0 (ap (λ k. slice_get (numbers_at f k n.x n.y) d.0) (sym e) ∙ d.3) (is_block f n.x n.y) refl
  by_kind Sink e =
      let d = place_of_node f i n h in
      terminal_room Input d.0 (ap (λ k. slice_get (numbers_at f k n.x n.y) d.0) (sym e) ∙ d.3) (is_block f n.x n.y) refl
  by_kind Opin e = omega arith
  by_kind Ipin e = omega arith
  by_kind Chanx e = wire_room f.mode f.width within.some_tracks
  by_kind Chany e = wire_room f.mode f.width within.some_tracks

  pub some_capacity : 1 ≤ capacity_of f n
  some_capacity = by_kind n.kind refl

-- ---- nodes that one net may use, by their numbers
one_by_kind : (f : Fabric) (k : Kind) → ((n : Node) → capacity_by k f n ≡ 1) → (o : Option Node) → option_map (λ n. n.kind) o ≡ Some k → option_map (capacity_of f) o ≡ Some 1
one_by_kind f k one None e = absurd (none-some k e)
one_by_kind f k one (Some n) e = ap Some (ap (λ kind. capacity_by kind f n) (same_Some n.kind k e) ∙ one n)

-- a pin or a wire of a detailed device
pub one_net : (f : Fabric) (i : ℕ) → f.mode ≡ Detailed → kind_start f Opin ≤ i → i < node_count_of f → option_map (capacity_of f) (node_at f i) ≡ Some 1
unfolding kind_start
one_net f i detailed from l = elim (cases_lt i (kind_start f Ipin)) [
  | inl opin ↦ one_by_kind f Opin (λ n. refl) (node_at f i) (kind_within f Opin i from opin)
  | inr ipins ↦ elim (cases_lt i (kind_start f Chanx)) [
    | inl ipin ↦ one_by_kind f Ipin (λ n. refl) (node_at f i) (kind_within f Ipin i ipins ipin)
    | inr wires ↦ elim (cases_lt i (kind_start f Chany)) [
      | inl row ↦ one_by_kind f Chanx (λ n. ap (λ mode. wire_capacity mode f.width) detailed) (node_at f i) (kind_within f Chanx i wires row)
      | inr column ↦ one_by_kind f Chany (λ n. ap (λ mode. wire_capacity mode f.width) detailed) (node_at f i) (kind_within f Chany i column (omega (arith, l, node_count_by_kinds f)))
    ]
  ]
]
