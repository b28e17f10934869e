-- What neighbours of a group are offered.
use Rattle.std.proofs.Common.{◌≡◌, Bool, ℕ, ◌+◌, ◌*◌, ◌<◌, List, [], ◌∷◌, length, map, get_or, Contains, true, false, inl, inr, refl, sym, ap, ◌∙◌, subst, arith}
use Rattle.std.specs.Int.{bit_at}
use Rattle.std.proofs.lemmas.Bool.{cases_eq, cases_lt, false≢true}
use Rattle.std.proofs.lemmas.Nat.Bits.{bit_at-zero}
use Rattle.std.proofs.lemmas.List.Elements.{All-contains}
use Rattle.track_groups.specs.declared.group.Group.{Group}
use Rattle.track_groups.specs.Groups.{IsOn, group_at, on_track}
use Rattle.track_groups.specs.Joints.{IsBeside, neighbours_of, taps_of, wire_beside}
use Rattle.track_groups.proofs.OnTracks.{on_within}
use Rattle.routing_problem.specs.node.Span.{Span}
use Rattle.routing_problem.specs.Nodes.{is_wire_at}
use Rattle.wavefront.specs.Boxes.{box_of_net, is_in_box, touches}
use Rattle.wavefront.specs.Space.{IsInside}
use Rattle.wavefront.specs.kept.Spaces.{node_count}
use Rattle.wavefront.proofs.WaysLeft.{wire_paid}
use Rattle.wavefront.proofs.Lists.{contains_none, contains_first, contains_later, contains_cases}
use Rattle.wave_queue.specs.kept.Bits.{PutsBit, TakesBit}
use Rattle.wave_ground.specs.kept.Grounds.{Ground, IsGround, groups_of}
use Rattle.wave_queue.specs.kept.Queues.{Waiting}
use Rattle.group_wave.specs.kept.WaveState.{FAR, Wave}
use Rattle.group_wave.specs.kept.Wave.{AreTracks}
use Rattle.group_wave.specs.kept.Steps.{IsFrom, IsLive, IsOffer, IsStep, IsTarget, Spreads, TookBefore, TookBut, TookNearer, TookNearerBefore, TookPins, TookWires}
use Rattle.group_wave.proofs.Grouped.{group_inside, is_wire_here, wire_within}
use Rattle.group_wave.proofs.Lower.{went_lower}

in_map : {X Y : Type 0} (f : X → Y) (xs : List X) (x : X) → Contains xs x → Contains (map f xs) (f x)
in_map f [] x h = absurd (contains_none x h)
in_map f (y ∷ ys) x h = elim (contains_cases y x ys h) [
  | inl e ↦ rw e (contains_first (f y) (map f ys))
  | inr later ↦ contains_later (f y) (f x) (map f ys) (in_map f ys x later)
]

module _ (g : Ground) (ok : IsGround g) (group track wire : ℕ) (target : IsTarget g group track wire) where
  -- the wire of a target is inside where its group is
  target_inside : (span : Span) → span ≡ (group_at (groups_of g) group).span → is_in_box g.space.device g.space.bb g.space.net wire ≡ touches g.space.bb (box_of_net g.space.device g.space.net) span
  target_inside span at = sym (ap (is_in_box g.space.device g.space.bb g.space.net) target.is) ∙ group_inside g ok (on_track group track) target.on ∙ ap (touches g.space.bb (box_of_net g.space.device g.space.net)) (sym at)

  -- and outside where that is
  pub target_outside : (span : Span) (inside : Bool) → span ≡ (group_at (groups_of g) group).span → inside ≡ touches g.space.bb (box_of_net g.space.device g.space.net) span → inside ≡ false → IsInside g.space wire → ⊥
  target_outside span inside at is off on = false≢true (sym off ∙ is ∙ sym (target_inside span at) ∙ on)

  pub target_is : is_wire_at g.space.device wire ≡ true
  target_is = subst (λ v. is_wire_at g.space.device v ≡ true) target.is (is_wire_here g ok (on_track group track) target.on)

  pub target_within : wire < node_count g.space
  target_within = ok.wires wire target_is

  -- an edge to it from a node of a label
  pub target_step : (w : Wave) (label parent : ℕ) (span : Span) (inside : Bool) → IsFrom g w label parent wire → span ≡ (group_at (groups_of g) group).span
      → inside ≡ touches g.space.bb (box_of_net g.space.device g.space.net) span → inside ≡ true → IsStep g w label wire parent
  target_step w label parent span inside from at is on = record {
    edge = from.edge;
    inside = target_inside span at ∙ sym is ∙ on;
    from = from.from;
    near = from.near;
    is = target_is;
    within = target_within;
  }

module _ (g : Ground) (e : Waiting) where
  pub took_then : (s t : Wave) (h : ℕ) → Spreads g s t → TookWires g s e h → TookWires g t e h
  took_then s t h step took j one inside = went_lower g s t (λ v. ⊥) e.label (wire_beside (groups_of g) j h) step.lowers (took j one inside)

  pub nearer_then : (s t : Wave) (wires h : ℕ) → Spreads g s t → TookNearer g s e wires h → TookNearer g t e wires h
  nearer_then s t wires h step (inl took) = inl (took_then s t h step took)
  nearer_then s t wires h step (inr low) = inr (rw step.lowers.boxes low)

  pub pins_then : (s t : Wave) (wires : ℕ) → Spreads g s t → TookPins g s e wires → TookPins g t e wires
  pins_then s t wires step (inl far) = inl far
  pins_then s t wires step (inr took) = inr (λ k d lt within j one tap inside. went_lower g s t (λ v. ⊥) e.label (get_or (taps_of g.tables e.group) k d).pin step.lowers (took k d lt within j one tap inside))

  -- one neighbour more
  pub took_next : (s t : Wave) (hs : List ℕ) (i h : ℕ) → Spreads g s t → get_or hs i 0 ≡ h → TookBefore g s e hs i → TookWires g t e h → TookBefore g t e hs (i + 1)
  took_next s t hs i h step at before took k lt within = elim (cases_lt k i) [
    | inl early ↦ took_then s t (get_or hs k 0) step (before k early within)
    | inr late ↦ let here : i ≡ k = omega (arith, lt, late) in subst (TookWires g t e) (sym at ∙ ap (λ x. get_or hs x 0) here) took
  ]

  -- one more that has it already
  pub but_settled : (w : Wave) (hs : List ℕ) (i h bits : ℕ) → get_or hs i 0 ≡ h → TookBut g w e hs i bits → TookWires g w e h → TookBut g w e hs (i + 1) bits
  but_settled w hs i h bits at before took = record {
    among = λ k one. (let early = before.among k one in omega (arith, early));
    took = λ k lt within none. elim (cases_lt k i) [
      | inl early ↦ before.took k early within none
      | inr late ↦ let here : i ≡ k = omega (arith, lt, late) in subst (TookWires g w e) (sym at ∙ ap (λ x. get_or hs x 0) here) took
    ];
  }

  -- one more that is still to be offered the way
  pub but_noted : (w : Wave) (hs : List ℕ) (i bits more : ℕ) → PutsBit bits more i → TookBut g w e hs i bits → TookBut g w e hs (i + 1) more
  but_noted w hs i bits more put before = record {
    among = λ k one. elim (cases_eq k i) [
      | inl here ↦ omega (arith, here)
      | inr other ↦ let early = before.among k (sym (put.others k other) ∙ one) in omega (arith, early)
    ];
    took = λ k lt within none. elim (cases_eq k i) [
      | inl here ↦ absurd (let one = put.here in let at = ap (bit_at more) here in omega (arith, one, at, none))
      | inr other ↦ before.took k (omega (arith, lt, other)) within (sym (put.others k other) ∙ none)
    ];
  }

  -- one of these was offered it
  pub but_less : (s t : Wave) (hs : List ℕ) (i k h bits less : ℕ) → Spreads g s t → TakesBit bits less k → get_or hs k 0 ≡ h → TookBut g s e hs i bits → TookWires g t e h → TookBut g t e hs i less
  but_less s t hs i k h bits less step taken at before took = record {
    among = λ j one. elim (cases_eq j k) [
      | inl here ↦ absurd (let gone = taken.gone in let same = ap (bit_at less) here in omega (arith, gone, same, one))
      | inr other ↦ before.among j (sym (taken.others j other) ∙ one)
    ];
    took = λ j lt within none. elim (cases_eq j k) [
      | inl here ↦ subst (TookWires g t e) (sym at ∙ ap (λ x. get_or hs x 0) (sym here)) took
      | inr other ↦ took_then s t (get_or hs j 0) step (before.took j lt within (sym (taken.others j other) ∙ none))
    ];
  }

  -- all were, where none is left
  pub but_none : (w : Wave) (hs : List ℕ) (i : ℕ) → TookBut g w e hs i 0 → TookBefore g w e hs i
  but_none w hs i before k lt within = before.took k lt within (bit_at-zero k)

  pub nearer_next : (s t : Wave) (wires : ℕ) (hs : List ℕ) (i h : ℕ) → Spreads g s t → get_or hs i 0 ≡ h → TookNearerBefore g s e wires hs i → TookNearer g t e wires h → TookNearerBefore g t e wires hs (i + 1)
  nearer_next s t wires hs i h step at before took k lt within = elim (cases_lt k i) [
    | inl early ↦ nearer_then s t wires (get_or hs k 0) step (before k early within)
    | inr late ↦ let here : i ≡ k = omega (arith, lt, late) in subst (TookNearer g t e wires) (sym at ∙ ap (λ x. get_or hs x 0) here) took
  ]

  module _ (ok : IsGround g) (h : ℕ) (beside : Contains (neighbours_of g.tables e.group) h) (tracks : AreTracks g e) where
    -- a neighbour has each track of the entry
    pub beside_on : (j : ℕ) → bit_at e.tracks j ≡ 1 → IsOn (groups_of g) (on_track h j)
    beside_on j one = All-contains (IsBeside (groups_of g) j) (neighbours_of g.tables e.group) h ((ok.tabled.joined e.group).wires j (tracks j one)).beside beside

    pub beside_within : (w : Wave) → IsLive g w e → h < length (groups_of g)
    beside_within w live = on_within (groups_of g) (on_track h live.some.0) (beside_on live.some.0 live.some.1)

    -- a group that isn't inside has no wire inside
    pub none_inside : (w : Wave) → touches g.space.bb (box_of_net g.space.device g.space.net) (group_at (groups_of g) h).span ≡ false → TookWires g w e h
    none_inside w off j one inside = absurd (false≢true (sym off ∙ sym (group_inside g ok (on_track h j) (beside_on j one)) ∙ inside))

    pub beside_offer : (w : Wave) (is : Group) → is ≡ group_at (groups_of g) e.group → IsLive g w e → touches g.space.bb (box_of_net g.space.device g.space.net) (group_at (groups_of g) h).span ≡ true
        → IsOffer g w e.label is.base is.stride h e.tracks
    beside_offer w is at live inside = rw at (record {
      on = beside_on;
      edge = λ j one.
          let told = ((ok.tabled.joined e.group).wires j (tracks j one)).edges (wire_beside (groups_of g) j h) (is_wire_here g ok (on_track h j) (beside_on j one)) in
          told.1 (in_map (wire_beside (groups_of g) j) (neighbours_of g.tables e.group) h beside);
      inside = λ j one. group_inside g ok (on_track h j) (beside_on j one) ∙ inside;
      from = live.labels;
    })

    -- from a track of the entry an edge leads to its wire of a neighbour
    pub beside_from : (w : Wave) (is : Group) → is ≡ group_at (groups_of g) e.group → IsLive g w e → e.label < FAR → (j : ℕ) → bit_at e.tracks j ≡ 1 → IsFrom g w e.label (is.base + j * is.stride) (wire_beside (groups_of g) j h)
    beside_from w is at live near j one = rw at (record {
      edge =
          let told = ((ok.tabled.joined e.group).wires j (tracks j one)).edges (wire_beside (groups_of g) j h) (is_wire_here g ok (on_track h j) (beside_on j one)) in
          told.1 (in_map (wire_beside (groups_of g) j) (neighbours_of g.tables e.group) h beside);
      from = live.labels j one;
      near = near;
      some = let paid = wire_paid g.space (wire_beside (groups_of g) j h) (is_wire_here g ok (on_track h j) (beside_on j one)) in omega (arith, paid);
    })

    pub beside_target : (j : ℕ) → bit_at e.tracks j ≡ 1 → IsTarget g h j (wire_beside (groups_of g) j h)
    beside_target j one = record { on = beside_on j one; is = refl }

    pub beside_step : (w : Wave) (is : Group) → is ≡ group_at (groups_of g) e.group → IsLive g w e → e.label < FAR → (j : ℕ) → bit_at e.tracks j ≡ 1 → IsInside g.space (wire_beside (groups_of g) j h)
        → IsStep g w e.label (wire_beside (groups_of g) j h) (is.base + j * is.stride)
    beside_step w is at live near j one inside =
        let from = beside_from w is at live near j one in
        record {
          edge = from.edge;
          inside = inside;
          from = from.from;
          near = near;
          is = is_wire_here g ok (on_track h j) (beside_on j one);
          within = wire_within g ok (on_track h j) (beside_on j one);
        }
