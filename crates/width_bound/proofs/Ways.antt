-- Ways of a routing that keep off the border: from a wire they lead to sinks with a pin on its side
-- alone, so that a net none of whose nodes stands in the way is not cut.
use Rattle.std.proofs.Common.{◌≡◌, ℕ, Bool, true, false, not, ◌==◌, ◌&&◌, List, get_or, Some, inl, inr, refl, sym, ap, ◌∙◌, subst}
use Rattle.std.specs.Prelude.{Contains}
use Rattle.std.specs.List.{filter_map, list_any}
use Rattle.std.proofs.lemmas.Bool.{and_from, and_parts, both_ways, eqb-true, eq-eqb, not_from_false, not-true}
use Rattle.std.proofs.lemmas.List.Elements.{All-contains, All-get_or}
use Rattle.std.proofs.lemmas.Option.{same_Some}
use Rattle.rr_graph.specs.node.Kind.{Kind}
use Rattle.rr_graph.specs.node.Kind.TheVariants.{Source, Sink, Opin, Ipin, Chanx, Chany}
use Rattle.rr_graph.specs.node.Node.{Node}
use Rattle.rr_graph.specs.Fabric.{Fabric}
use Rattle.rr_graph.specs.Pins.{belongs}
use Rattle.rr_graph.specs.Nodes.{is_sink, is_sink_kind, is_source_kind, is_wire, nodes_at, node_at}
use Rattle.rr_graph.specs.Edges.{edge_between}
use Rattle.rr_graph.specs.Problems.{Net, IsNet}
use Rattle.route_tree.specs.Paths.{Pair, Path, ends_of}
use Rattle.route_tree.specs.Paths.Path.{here, along}
use Rattle.route_tree.specs.Legality.{IsJoined, IsLegal}
use Rattle.route_tree.proofs.LegalLists.{leaves_source}
use Rattle.route_tree.proofs.Members.{among_ends, end_of, pair_among}
use Rattle.width_bound.specs.Cuts.{Cut, is_cut, is_given_up, is_parted_from, pins_left, share_side}
use Rattle.width_bound.specs.CutNets.{is_cut_from, is_cut_net}
use Rattle.width_bound.proofs.Lists.{all_at, any_at, any_found, contains_kept, found_in_mapped, only_one}
use Rattle.width_bound.proofs.WireSides.{KeepsOff, is_reached, joined_side, sharing, side_of, tapped_side}
use Rattle.width_bound.proofs.Edges.{edge_ends, from_input, from_output, from_sink, from_source, from_wire, sink_at, source_at, stands}
use Rattle.width_bound.proofs.Room.{is_pin}

-- a node that stands in no way: a wire that keeps off the border, or a pin that is not given up
pub record IsFree (f : Fabric) (cut : Cut) (n : Node) : Type 0 where
  pub off : KeepsOff f cut n
  pub kept : is_pin n.kind ≡ true → is_given_up cut n ≡ false

same_place : (f : Fabric) (pin terminal : Node) → belongs f pin terminal ≡ true → (pin.x ≡ terminal.x) × (pin.y ≡ terminal.y)
unfolding belongs
same_place f pin terminal e =
    let place = and_parts (pin.x == terminal.x && pin.y == terminal.y) _ e in
    let both = and_parts (pin.x == terminal.x) (pin.y == terminal.y) place.0 in
    (eqb-true pin.x terminal.x both.0, eqb-true pin.y terminal.y both.1)

wire_not_sink : (k : Kind) → is_wire k ≡ true → is_sink_kind k ≡ true → ⊥
wire_not_sink Sink w s = both_ways false refl w
wire_not_sink Chanx w s = both_ways false refl s
wire_not_sink Chany w s = both_ways false refl s
wire_not_sink _ w s = both_ways false refl s

source_not_sink : (k : Kind) → is_source_kind k ≡ true → is_sink_kind k ≡ true → ⊥
source_not_sink Source e s = both_ways false refl s
source_not_sink _ e s = both_ways false refl e

pin_not_sink : (k : Kind) → is_pin k ≡ true → is_sink_kind k ≡ true → ⊥
pin_not_sink Opin p s = both_ways false refl s
pin_not_sink Ipin p s = both_ways false refl s
pin_not_sink _ p s = both_ways false refl p

module _ (f : Fabric) (cut : Cut) where
  -- a pin that is not given up is left to its terminal
  left : (k : Kind) (i : ℕ) (pin terminal : Node) → node_at f i ≡ Some pin → pin.kind ≡ k → belongs f pin terminal ≡ true → is_given_up cut pin ≡ false → Contains (pins_left f cut k terminal) pin
  unfolding pins_left
  left k i pin terminal h e of kept =
      let at = same_place f pin terminal of in
      let moved : Contains (nodes_at f k terminal.x terminal.y) pin = rw (← at.0, ← at.1, ← e) (stands f i pin h) in
      contains_kept (λ p. belongs f p terminal && not (is_given_up cut p)) (nodes_at f k terminal.x terminal.y) pin moved (and_from (belongs f pin terminal) _ of (not_from_false (is_given_up cut pin) kept))

  -- the sink has a pin left that is reached on a side
  abbrev IsOn : Bool → Node → Type 0
  IsOn side sink = list_any (is_reached f cut side) (pins_left f cut Ipin sink) ≡ true

  module _ (pairs : List Pair) (switch : (a b : ℕ) → Contains pairs (a, b) → edge_between f a b ≡ true)
      (free : (a : ℕ) (n : Node) → Contains (ends_of pairs) a → node_at f a ≡ Some n → IsFree f cut n) where
    -- a way from a sink goes nowhere
    from_a_sink : {d s : ℕ} → Path pairs d s → (n m : Node) → node_at f d ≡ Some n → is_sink_kind n.kind ≡ true → node_at f s ≡ Some m → n ≡ m
    from_a_sink (here a) n m h e g = same_Some n m (sym h ∙ g)
    from_a_sink (along a b c pair way) n m h e g =
        let ends = edge_ends f a b (switch a b pair) in
        let first = same_Some ends.from n (sym ends.from_at ∙ h) in
        absurd (from_sink f ends.from ends.to ends.edge (ap (λ k. is_sink_kind k.kind) first ∙ e))

    -- a way from an input pin goes to its sink
    from_an_input : {d s : ℕ} → Path pairs d s → (n m : Node) → node_at f d ≡ Some n → n.kind ≡ Ipin → node_at f s ≡ Some m → is_sink_kind m.kind ≡ true → belongs f n m ≡ true
    from_an_input (here a) n m h e g sink =
        let same = same_Some n m (sym h ∙ g) in
        absurd (pin_not_sink m.kind (ap (λ (k : Node). is_pin k.kind) (sym same) ∙ ap is_pin e) sink)
    from_an_input (along a b c pair way) n m h e g sink =
        let ends = edge_ends f a b (switch a b pair) in
        let first = same_Some ends.from n (sym ends.from_at ∙ h) in
        let leads = from_input f ends.from ends.to ends.edge (ap (λ (k : Node). k.kind) first ∙ e) in
        let last = from_a_sink way ends.to m ends.to_at leads.0 g in
        rw (← first, ← last) leads.1

    -- a way from a wire leads to a sink on its side
    from_a_wire : {d s : ℕ} → Path pairs d s → (n m : Node) → node_at f d ≡ Some n → is_wire n.kind ≡ true → KeepsOff f cut n → node_at f s ≡ Some m → is_sink_kind m.kind ≡ true → IsOn (side_of f cut n) m
    from_a_wire (here a) n m h wire off g sink =
        let same = same_Some n m (sym h ∙ g) in
        absurd (wire_not_sink m.kind (ap (λ (k : Node). is_wire k.kind) (sym same) ∙ wire) sink)
    from_a_wire (along a b c pair way) n m h wire off g sink =
        let ends = edge_ends f a b (switch a b pair) in
        let first = same_Some ends.from n (sym ends.from_at ∙ h) in
        let next = free b ends.to (end_of pairs (a, b) pair) ends.to_at in
        let off_here : KeepsOff f cut ends.from = rw first off in
        elim (from_wire f ends.from ends.to ends.edge (ap (λ (k : Node). is_wire k.kind) first ∙ wire)) [
          | inl on ↦ (
              let side = ap (side_of f cut) (sym first) ∙ joined_side f cut ends.from ends.to on.1 off_here next.off in
              subst (λ s. IsOn s m) (sym side) (from_a_wire way ends.to m ends.to_at on.0 next.off g sink))
          | inr pin ↦ (
              let side = ap (side_of f cut) first in
              let of = from_an_input way ends.to m ends.to_at pin.0 g sink in
              let stays = left Ipin b ends.to m ends.to_at pin.0 of (next.kept (ap is_pin pin.0)) in
              subst (λ s. IsOn s m) side (any_at (is_reached f cut (side_of f cut ends.from)) (pins_left f cut Ipin m) ends.to stays (tapped_side f cut ends.to ends.from pin.1 off_here)))
        ]

    -- a way from an output pin leads to a sink that is not parted from it
    from_an_output : {d s : ℕ} → Path pairs d s → (n m : Node) → node_at f d ≡ Some n → n.kind ≡ Opin → node_at f s ≡ Some m → is_sink_kind m.kind ≡ true → is_parted_from f cut n m ≡ true → ⊥
    from_an_output (here a) n m h e g sink parted =
        let same = same_Some n m (sym h ∙ g) in
        pin_not_sink m.kind (ap (λ (k : Node). is_pin k.kind) (sym same) ∙ ap is_pin e) sink
    from_an_output (along a b c pair way) n m h e g sink parted =
        let ends = edge_ends f a b (switch a b pair) in
        let first = same_Some ends.from n (sym ends.from_at ∙ h) in
        let next = free b ends.to (end_of pairs (a, b) pair) ends.to_at in
        let leads = from_output f ends.from ends.to ends.edge (ap (λ (k : Node). k.kind) first ∙ e) in
        let side = side_of f cut ends.to in
        let out : is_reached f cut side n ≡ true = rw (← first) (tapped_side f cut ends.from ends.to leads.1 next.off) in
        let pin = any_found (is_reached f cut side) (pins_left f cut Ipin m) (from_a_wire way ends.to m ends.to_at leads.0 next.off g sink) in
        both_ways (list_any (share_side f cut n) (pins_left f cut Ipin m)) (not-true _ parted)
        (any_at (share_side f cut n) (pins_left f cut Ipin m) pin.0 pin.1 (sharing f cut side n pin.0 out pin.2))

  -- a net none of whose nodes stands in the way is not cut
  module _ (n : Net) (net : IsNet f n) (pairs : List Pair) (legal : IsLegal f n pairs)
      (free : (a : ℕ) (m : Node) → Contains (ends_of pairs) a → node_at f a ≡ Some m → IsFree f cut m) where
    switch : (a b : ℕ) → Contains pairs (a, b) → edge_between f a b ≡ true
    switch a b h = All-contains (λ (p : Pair). edge_between f p.0 p.1 ≡ true) pairs (a, b) legal.switches h

    -- a way leads from the source to where a pair ends
    reached : (s : ℕ) → Contains (ends_of pairs) s → Path pairs n.source s
    reached s h =
        let at = among_ends pairs s h in
        subst (Path pairs n.source) at.2 (All-get_or (IsJoined n pairs) pairs at.0 (0, 0) at.1 legal.joined).from_source

    from_the_source : {d s : ℕ} → Path pairs d s → d ≡ n.source → (p : Pair) → Contains pairs p → p.0 ≡ n.source → (source output sink : Node) →
        node_at f n.source ≡ Some source → is_source_kind source.kind ≡ true → node_at f p.1 ≡ Some output → output.kind ≡ Opin →
        node_at f s ≡ Some sink → is_sink_kind sink.kind ≡ true → is_parted_from f cut output sink ≡ true → ⊥
    from_the_source (here a) same p first begins source output sink g is_source h pin e is_sink parted =
        let one = same_Some source sink (sym g ∙ ap (node_at f) (sym same) ∙ e) in
        source_not_sink sink.kind (ap (λ (k : Node). is_source_kind k.kind) (sym one) ∙ is_source) is_sink
    from_the_source (along a b c pair way) same p first begins source output sink g is_source h pin e is_sink parted =
        let alone = only_one (λ (q : Pair). q.0 == n.source) pairs p (a, b) legal.one_output first pair (eq-eqb p.0 n.source begins) (eq-eqb a n.source same) in
        from_an_output pairs switch free way output sink (ap (node_at f) (sym (ap (λ (q : Pair). q.1) alone)) ∙ h) pin e is_sink parted

    -- so no sink of the net is parted from the output pin that it leaves by
    none_parted : (p : Pair) → Contains pairs p → p.0 ≡ n.source → (source output : Node) → node_at f n.source ≡ Some source → is_source_kind source.kind ≡ true →
        node_at f p.1 ≡ Some output → output.kind ≡ Opin → (s : ℕ) (sink : Node) → Contains n.sinks s → node_at f s ≡ Some sink → is_parted_from f cut output sink ≡ true → ⊥
    none_parted p first begins source output g is_source h pin s sink among e parted =
        let kind = sink_at f s sink (All-contains (λ t. is_sink f t ≡ true) n.sinks s net.sinks among) e in
        from_the_source (reached s ((legal.sinks s).1 among).0) refl p first begins source output sink g is_source h pin e kind parted

    pub not_cut : is_cut_net f cut n ≡ true → ⊥
    unfolding is_cut
    not_cut e =
        let source = source_at f n.source net.source in
        let cuts : is_cut f cut source.0 (filter_map (node_at f) n.sinks) ≡ true = ap (λ o. is_cut_from f cut o (filter_map (node_at f) n.sinks)) (sym source.1) ∙ e in
        let begins = leaves_source f n pairs legal in
        let p = get_or pairs begins.0 (0, 0) in
        let first = pair_among pairs begins.0 begins.1 in
        let ends = edge_ends f p.0 p.1 (switch p.0 p.1 first) in
        let same = same_Some ends.from source.0 (sym ends.from_at ∙ ap (node_at f) begins.2 ∙ source.1) in
        let leads = from_source f ends.from ends.to ends.edge (ap (λ (k : Node). is_source_kind k.kind) same ∙ source.2) in
        let next = free p.1 ends.to (end_of pairs p first) ends.to_at in
        let stays = left Opin p.1 ends.to source.0 ends.to_at leads.0 (rw (← same) leads.1) (next.kept (ap is_pin leads.0)) in
        let found = found_in_mapped (node_at f) (is_parted_from f cut ends.to) n.sinks (all_at (λ o. list_any (is_parted_from f cut o) (filter_map (node_at f) n.sinks)) (pins_left f cut Opin source.0) ends.to cuts stays) in
        none_parted p first begins.2 source.0 ends.to source.1 source.2 ends.to_at leads.0 found.0 found.1 found.2 found.3 found.4
