-- What going on from tracks of a group does.
use Rattle.std.proofs.Common.{◌≡◌, ℕ, suc, ◌+◌, ◌<◌, ◌≤◌, ◌⊎◌, Bool, true, false, cond, List, [], ◌∷◌, length, get_or, map, Contains, Some, inl, inr, sym, ap, ◌∙◌, subst, arith}
use Rattle.std.specs.List.{list_any}
use Rattle.std.specs.Int.{bit_at}
use Rattle.std.proofs.lemmas.Bool.{eqb-true, false≢true, and_parts, or_cases}
use Rattle.std.proofs.lemmas.List.Elements.{All-get_or}
use Rattle.routing_problem.specs.node.Kind.TheVariants.{Ipin}
use Rattle.routing_problem.specs.Nodes.{is_wire_at, kind_of_node}
use Rattle.track_groups.specs.declared.group.Tap.{Tap}
use Rattle.track_groups.specs.Groups.{IsOn, group_at, on_track, wire_on}
use Rattle.track_groups.specs.Joints.{IsBeside, neighbours_of, tap_on, taps_of, taps_track, wire_beside}
use Rattle.track_groups.proofs.EdgesTold.{edge_told}
use Rattle.wavefront.specs.Space.{HasEdge, IsInside}
use Rattle.wavefront.specs.Ways.{IsWay}
use Rattle.wavefront.specs.kept.Bounds.{left_over}
use Rattle.wave_ground.specs.kept.Boxes.{IsLow, wire_of}
use Rattle.wavefront.proofs.Lists.{contains_none, contains_cases}
use Rattle.wavefront.proofs.WaysLeft.{wire_paid}
use Rattle.wave_ground.specs.kept.Grounds.{Ground, IsGround, groups_of}
use Rattle.wave_queue.specs.kept.Queues.{Waiting}
use Rattle.group_wave.specs.kept.WaveState.{Wave}
use Rattle.group_wave.specs.kept.Wave.{AreTracks, Holds, IsCompleteBut, IsEdgeCovered, IsOf, IsWave, WentAlong, WentOn, cost_at}
use Rattle.group_wave.specs.kept.Steps.{GoesOn, IsPushed, Settles, Spreads, TookNearer, TookTaps, TookWires}
use Rattle.group_wave.proofs.Grouped.{far_pin, group_bound, is_wire_here}
use Rattle.group_wave.proofs.Lower.{complete_lower, complete_went, dead_bound, origins_then, still_of, went_lower}
use Rattle.group_wave.proofs.Pushed.{pushed_cost, pushed_in, pushed_label, pushed_lowers, pushed_wave, pushed_work}
use Rattle.group_wave.proofs.Sinks.{sinks_best}

-- ---- lists
mapped : {X Y : Type 0} (f : X → Y) (xs : List X) (d : X) (y : Y) → Contains (map f xs) y → (k : ℕ) × (k < length xs) × (f (get_or xs k d) ≡ y)
mapped f [] d y h = absurd (contains_none y h)
mapped f (x ∷ xs) d y h = elim (contains_cases (f x) y (map f xs) h) [
  | inl e ↦ (0, omega arith, sym e)
  | inr later ↦ let r = mapped f xs d y later in (suc r.0, (let lt = r.1 in omega (arith, lt)), r.2)
]

any_tap : (pin j : ℕ) (ts : List Tap) (d : Tap) → list_any (taps_track pin j) ts ≡ true → (k : ℕ) × (k < length ts) × ((get_or ts k d).pin ≡ pin) × (bit_at (get_or ts k d).tracks j ≡ 1)
any_tap pin j [] d e = absurd (false≢true e)
any_tap pin j (t ∷ ts) d e = elim (or_cases (taps_track pin j t) (list_any (taps_track pin j) ts) e) [
  | inl here ↦ let h = and_parts _ _ here in (0, omega arith, eqb-true t.pin pin h.0, eqb-true _ _ h.1)
  | inr later ↦ let r = any_tap pin j ts d later in (suc r.0, (let lt = r.1 in omega (arith, lt)), r.2, r.3)
]

pub tap_there : (ts : List Tap) (pin j : ℕ) (d : Tap) → tap_on ts pin j ≡ true → (k : ℕ) × (k < length ts) × ((get_or ts k d).pin ≡ pin) × (bit_at (get_or ts k d).tracks j ≡ 1)
unfolding tap_on
tap_there ts pin j d e = any_tap pin j ts d e

-- ---- nothing is owed where all was offered
module _ (g : Ground) (ok : IsGround g) (e : Waiting) (d : Tap) where
  abbrev here : ℕ → ℕ
  here j = wire_on (groups_of g) (on_track e.group j)

  -- each edge leads to a wire of a neighbour, or to a pin that taps the track
  edges : (v : ℕ) (holds : Holds g e v) → AreTracks g e → (b : ℕ) → HasEdge g.space v b
      → ((k : ℕ) × (k < length (neighbours_of g.tables e.group)) × (wire_beside (groups_of g) holds.track (get_or (neighbours_of g.tables e.group) k 0) ≡ b))
      ⊎ ((_ : kind_of_node g.space.device b ≡ Some Ipin) × (k : ℕ) × (k < length (taps_of g.tables e.group)) × ((get_or (taps_of g.tables e.group) k d).pin ≡ b) × (bit_at (get_or (taps_of g.tables e.group) k d).tracks holds.track ≡ 1))
  edges v holds tracks b edge = elim (edge_told g.space.device g.tables ok.tabled (on_track e.group holds.track) (tracks holds.track holds.bit) b (rw holds.wire edge)) [
    | inl wire ↦ inl (mapped _ (neighbours_of g.tables e.group) 0 b wire)
    | inr pin ↦ let t = tap_there (taps_of g.tables e.group) b holds.track d pin.1 in inr (pin.0, t.0, t.1, t.2, t.3)
  ]

  module _ (w : Wave) (wave : IsWave g w) (tracks : AreTracks g e) (wires : ℕ) (low : IsLow w.boxes (wire_of (group_at (groups_of g) e.group)) wires)
      (pins : (1 ≤ wires) ⊎ TookTaps g w e (taps_of g.tables e.group) (length (taps_of g.tables e.group))) where
    -- to pins it went, or they are dead ends
    pin_went : (v : ℕ) (of : IsOf g w e v) (b : ℕ) → HasEdge g.space v b → IsInside g.space b → kind_of_node g.space.device b ≡ Some Ipin
        → (k : ℕ) → k < length (taps_of g.tables e.group) → (get_or (taps_of g.tables e.group) k d).pin ≡ b → bit_at (get_or (taps_of g.tables e.group) k d).tracks of.holds.track ≡ 1 → WentOn g w (cost_at w v) b
    pin_went v of b edge inside kind k lt at bit = elim pins [
      | inl far ↦ inl (dead_bound g w b _ (far_pin g ok (on_track e.group of.holds.track) (tracks of.holds.track of.holds.bit) w wave.boxes wires low b far (rw of.holds.wire edge) kind))
      | inr took ↦ subst (λ l. WentOn g w l b) of.label (subst (WentOn g w e.label) at (took k d lt lt of.holds.track of.holds.bit bit (subst (IsInside g.space) (sym at) inside)))
    ]

    pub rest_went : ((k : ℕ) → k < length (neighbours_of g.tables e.group) → TookWires g w e (get_or (neighbours_of g.tables e.group) k 0)) → (v : ℕ) → IsOf g w e v → WentAlong g w v (cost_at w v)
    rest_went took v of b edge inside = elim (edges v of.holds tracks b edge) [
      | inl wire ↦ subst (λ l. WentOn g w l b) of.label (subst (WentOn g w e.label) wire.2 (took wire.0 wire.1 of.holds.track of.holds.bit (subst (IsInside g.space) (sym wire.2) inside)))
      | inr pin ↦ pin_went v of b edge inside pin.0 pin.1 pin.2 pin.3 pin.4
    ]

    -- or the entry that is put back covers the edge
    pub first_settled : (u : Wave) (f : Waiting) (push : IsPushed w u f) → f.label ≡ e.label → f.group ≡ e.group → f.tracks ≡ e.tracks → f.key ≤ e.label + left_over wires + 320
        → ((k : ℕ) → k < length (neighbours_of g.tables e.group) → TookNearer g w e wires (get_or (neighbours_of g.tables e.group) k 0))
        → (v : ℕ) → IsOf g w e v → (b : ℕ) → HasEdge g.space v b → IsInside g.space b → WentOn g u (cost_at u v) b ⊎ IsEdgeCovered g u v b
    first_settled u f push label group same key took v of b edge inside = elim (edges v of.holds tracks b edge) [
      | inr pin ↦ inl (on (pin_went v of b edge inside pin.0 pin.1 pin.2 pin.3 pin.4))
      | inl wire ↦ elim (took wire.0 wire.1) [
        | inl went ↦ inl (on (subst (λ l. WentOn g w l b) of.label (subst (WentOn g w e.label) wire.2 (went of.holds.track of.holds.bit (subst (IsInside g.space) (sym wire.2) inside)))))
        | inr far ↦ inr (covered wire.0 wire.1 wire.2 far)
      ]
    ]
      where
        on : WentOn g w (cost_at w v) b → WentOn g u (cost_at u v) b
        on went = subst (λ l. WentOn g u l b) (sym (pushed_cost g w u f push v)) (went_lower g w u (λ x. ⊥) (cost_at w v) b (pushed_lowers g w u f push) went)

        covered : (k : ℕ) → k < length (neighbours_of g.tables e.group) → wire_beside (groups_of g) of.holds.track (get_or (neighbours_of g.tables e.group) k 0) ≡ b → IsLow w.boxes (wire_of (group_at (groups_of g) (get_or (neighbours_of g.tables e.group) k 0))) wires → IsEdgeCovered g u v b
        covered k lt at far =
            let h = get_or (neighbours_of g.tables e.group) k 0 in
            let on_h : IsOn (groups_of g) (on_track h of.holds.track) = beside k lt in
            record {
              entry = f;
              there = pushed_in g w u f push;
              is = record { holds = record { track = of.holds.track; bit = rw same of.holds.bit; wire = rw group of.holds.wire }; label = label ∙ of.label ∙ sym (pushed_cost g w u f push v) };
              low = λ c way target walk.
                  let left = group_bound g ok (on_track h of.holds.track) on_h u (pushed_wave g w u f push wave (λ j one. rw group (tracks j (rw same at one)))).boxes wires (rw (push.boxes) far) c way target (subst (λ x. IsWay g.space x way c) (sym at) walk) in
                  let paid = wire_paid g.space b (subst (λ x. is_wire_at g.space.device x ≡ true) at (is_wire_here g ok (on_track h of.holds.track) on_h)) in
                  let cost = pushed_cost g w u f push v in
                  let is = of.label in
                  omega (arith, left, paid, cost, is, key);
            }
          where
            beside : (k : ℕ) → k < length (neighbours_of g.tables e.group) → IsOn (groups_of g) (on_track (get_or (neighbours_of g.tables e.group) k 0) of.holds.track)
            beside k lt = All-get_or (IsBeside (groups_of g) of.holds.track) (neighbours_of g.tables e.group) k 0 lt ((ok.tabled.joined e.group).wires of.holds.track (tracks of.holds.track of.holds.bit)).beside

-- ---- both parts
pub weight_some : (b : Bool) → 1 ≤ cond {A = ℕ} b 1 2
weight_some true = omega arith
weight_some false = omega arith

module _ (g : Ground) (s t : Wave) (e : Waiting) (but : IsCompleteBut g s (IsOf g s e)) (spreads : Spreads g s t) where
  still_but : IsCompleteBut g t (IsOf g t e)
  still_but = complete_lower g s t (λ v. ⊥) (IsOf g s e) (IsOf g t e) spreads.lowers (λ v of same. still_of g s t e v same of) (λ v none. absurd none) but

  pub rest_goes_on : ((v : ℕ) → IsOf g t e v → WentAlong g t v (cost_at t v)) → GoesOn g s t e
  rest_goes_on went = record {
    settles = record {
      wave = spreads.wave;
      complete = complete_went g t (IsOf g t e) still_but went;
      origins = spreads.lowers.origins;
      best = spreads.best;
      boxes = spreads.lowers.boxes;
    };
    work = let w = spreads.work in let some = weight_some e.begun in omega (arith, w, some);
  }

  -- where an entry is put in that covers the edges along which it didn't go
  pub pushed_settles : (u : Wave) (f : Waiting) (push : IsPushed t u f) → AreTracks g f
      → ((v : ℕ) → IsOf g t e v → (b : ℕ) → HasEdge g.space v b → IsInside g.space b → WentOn g u (cost_at u v) b ⊎ IsEdgeCovered g u v b) → Settles g s u
  pushed_settles u f push tracks settled = record {
    wave = pushed_wave g t u f push spreads.wave tracks;
    complete = record {
      each = λ v reached b edge inside. elim ((complete_lower g t u (λ x. ⊥) (IsOf g t e) (IsOf g u e) (pushed_lowers g t u f push) (λ x of same. still_of g t u e x same of) (λ x none. absurd none) still_but).each v reached b edge inside) [
        | inl went ↦ inl went
        | inr other ↦ elim other [
          | inl covered ↦ inr (inl covered)
          | inr of ↦ elim (settled v (still_of g u t e v (sym (pushed_cost g t u f push v)) of) b edge inside) [ inl went ↦ inl went | inr covered ↦ inr (inl covered) ]
        ]
      ];
    };
    origins = origins_then g s t u spreads.lowers.origins (pushed_lowers g t u f push).origins;
    best = λ was. sinks_best g t u (pushed_lowers g t u f push).origins (record { best = push.best; labels = λ b wanted. pushed_label g t u f push b }) (spreads.best was);
    boxes = push.boxes ∙ spreads.lowers.boxes;
  }

  pub first_goes_on : (u : Wave) (f : Waiting) (push : IsPushed t u f) → AreTracks g f → e.begun ≡ false → f.begun ≡ true
      → ((v : ℕ) → IsOf g t e v → (b : ℕ) → HasEdge g.space v b → IsInside g.space b → WentOn g u (cost_at u v) b ⊎ IsEdgeCovered g u v b) → GoesOn g s u e
  first_goes_on u f push tracks before after settled = record {
    settles = pushed_settles u f push tracks settled;
    work = let w = spreads.work in let p = pushed_work g t u f push in let a = ap {B = ℕ} (λ x. cond x 1 2) before in let c = ap {B = ℕ} (λ x. cond x 1 2) after in omega (arith, w, p, a, c);
  }
