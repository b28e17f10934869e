-- The wires are the nodes from one number on.
use Rattle.std.proofs.Common.{◌≡◌, ℕ, ◌+◌, ◌<◌, ◌≤◌, true, false, inl, inr, length, Some, None, sym, ap, ◌∙◌, arith}
use Rattle.std.specs.Prelude.{nat_le, if◌then◌else◌}
use Rattle.std.specs.Option.{option_map, option_map_or}
use Rattle.std.proofs.lemmas.Bool.{cases_lt}
use Rattle.std.proofs.lemmas.Bool.Decides.{nat_tests}
use Rattle.std.proofs.lemmas.Option.{slice_get_within}
use Rattle.channel_tables.specs.declared.node.Kind.{Kind}
use Rattle.channel_tables.specs.declared.node.Kind.TheVariants.{Source, Sink, Opin, Ipin, Chanx, Chany}
use Rattle.channel_tables.specs.declared.node.Node.{Node}
use Rattle.channel_tables.specs.declared.node.Span.{Span}
use Rattle.channel_tables.specs.Fabric.{Fabric}
use Rattle.channel_tables.specs.Wires.{reach_of}
use Rattle.node_numbers.specs.Nodes.{nodes_of, nodes_of_kind, node_count_of, node_at, is_wire, is_wire_at, span_of, wire_in}
use Rattle.node_numbers.specs.Starts.{kind_start}
use Rattle.node_numbers.proofs.NodesByPlace.{kind_within, node_count_by_kinds}

pub few_before_wires : (f : Fabric) → kind_start f Chanx ≤ node_count_of f
unfolding kind_start
few_before_wires f = omega (arith, node_count_by_kinds f)

module _ (f : Fabric) (i : ℕ) where
  of_kind : (k : Kind) → kind_start f k ≤ i → i < kind_start f k + length (nodes_of_kind f k) → is_wire_at f i ≡ is_wire k
  of_kind k from below = ap (λ kind. option_map_or is_wire kind false) (kind_within f k i from below)

  no_wire : i < kind_start f Chanx → is_wire_at f i ≡ false
  unfolding kind_start
  no_wire l = elim (cases_lt i (kind_start f Sink)) [
    | inl below ↦ of_kind Source (omega arith) (omega arith)
    | inr sinks ↦ elim (cases_lt i (kind_start f Opin)) [
      | inl below ↦ of_kind Sink sinks below
      | inr opins ↦ elim (cases_lt i (kind_start f Ipin)) [
        | inl below ↦ of_kind Opin opins below
        | inr ipins ↦ of_kind Ipin ipins l
      ]
    ]
  ]

  a_wire : kind_start f Chanx ≤ i → i < node_count_of f → is_wire_at f i ≡ true
  unfolding kind_start
  a_wire from l = elim (cases_lt i (kind_start f Chany)) [
    | inl below ↦ of_kind Chanx from below
    | inr right ↦ of_kind Chany right (omega (arith, node_count_by_kinds f))
  ]

  pub wires_from : i < node_count_of f → is_wire_at f i ≡ nat_le (kind_start f Chanx) i
  wires_from l = elim (cases_lt i (kind_start f Chanx)) [
    | inl before ↦ (let test : nat_le (kind_start f Chanx) i ≡ false = grind (arith, nat_tests) in no_wire before ∙ sym test)
    | inr from ↦ (let test : nat_le (kind_start f Chanx) i ≡ true = grind (arith, nat_tests) in a_wire from l ∙ sym test)
  ]

-- the node of a number from the first wire's on is a wire
pub wire_from : (f : Fabric) (start i : ℕ) (a : Node) → ((j : ℕ) → j < node_count_of f → is_wire_at f j ≡ nat_le start j) → start ≤ i → node_at f i ≡ Some a → is_wire a.kind ≡ true
wire_from f start i a wires from h =
    let here : i < node_count_of f = slice_get_within (nodes_of f) i a h in
    let test : nat_le start i ≡ true = grind (arith, nat_tests) in
    sym (ap (λ o. option_map_or is_wire (option_map (λ n. n.kind) o) false) h) ∙ wires i here ∙ test

-- what is reported of a wire
pub wire_reported : (f : Fabric) (i : ℕ) (a : Node) (span : Span) (reach : ℕ) → node_at f i ≡ Some a → is_wire a.kind ≡ true → span ≡ span_of f a → reach ≡ reach_of f a.number
    → Some (a.kind, span, reach) ≡ wire_in f (node_at f i)
unfolding wire_in
wire_reported f i a span reach h wire spans reaches =
    ap (λ s. Some (a.kind, s, reach)) spans ∙ ap (λ r. Some (a.kind, span_of f a, r)) reaches
    ∙ sym (ap (wire_in f) h ∙ ap (λ b. if b then Some (a.kind, span_of f a, reach_of f a.number) else None) wire)
