-- What starting at a node does.
use Rattle.std.proofs.Common.{◌≡◌, ℕ, ◌<◌, ◌≤◌, length, inl, inr, sym, ap, ◌∙◌, subst, arith}
use Rattle.std.specs.Int.{bit_at}
use Rattle.std.proofs.lemmas.Bool.{cases_eq}
use Rattle.std.proofs.lemmas.List.{length-set}
use Rattle.std.proofs.lemmas.Nat.Bits.{bit_at-zero}
use Rattle.track_groups.specs.declared.group.GroupTrack.{GroupTrack}
use Rattle.track_groups.specs.Groups.{HasPlace, group_at, on_track, place_of, wire_on}
use Rattle.wavefront.specs.Space.{IsWanted}
use Rattle.wavefront.specs.kept.Bounds.{left_over}
use Rattle.wave_ground.specs.kept.Boxes.{IsLow, wire_of}
use Rattle.wavefront.specs.kept.Spaces.{node_count}
use Rattle.wave_queue.specs.kept.Bits.{PutsBit}
use Rattle.wave_ground.specs.kept.Grounds.{Ground, IsGround, groups_of}
use Rattle.wave_queue.specs.kept.Queues.{Waiting}
use Rattle.group_wave.specs.kept.WaveState.{FAR, NodeLabel, Wave}
use Rattle.group_wave.specs.kept.Wave.{AreTracks, IsBest, IsComplete, IsCompleteBut, IsOf, IsOrigin, IsSettled, IsWave, WentAlong, WentOn, cost_at, label_at}
use Rattle.group_wave.specs.kept.Steps.{IsLabelled, IsNoted, IsPushed, KeepsOrigins, MoreOrigins, Spreads}
use Rattle.group_wave.specs.kept.Starts.{IsEnd, StartsAt}
use Rattle.group_wave.proofs.Lower.{bound_out, complete_lower, complete_went, dead_bound, entered_lower, label_here, label_there, same_origin, set_down, still_covered, still_dead, still_open, still_serves, waiting_settled, went_up}
use Rattle.group_wave.proofs.Noted.{noted_lowers}
use Rattle.group_wave.proofs.Pushed.{pushed_lowers, pushed_waits, pushed_wave}
use Rattle.group_wave.proofs.Grouped.{group_bound, wire_within}

-- the label of a start
abbrev pub start_label : ℕ → NodeLabel
start_label node = record { cost = 0; parent = node; price = 0 }

-- nothing is owed to a node that is settled
pub settled_complete : (g : Ground) (w : Wave) (node : ℕ) → IsCompleteBut g w (λ v. v ≡ node) → IsSettled g w node → IsComplete g w
settled_complete g w node but settled = record {
  each = λ v reached b edge inside. elim (but.each v reached b edge inside) [
    | inl went ↦ inl went
    | inr other ↦ elim other [
      | inl covered ↦ inr (inl covered)
      | inr e ↦ elim (subst (IsSettled g w) (sym e) settled b edge inside) [ inl went ↦ inl went | inr covered ↦ inr (inl covered) ]
    ]
  ];
}

module _ (g : Ground) (s t : Wave) (node : ℕ) (set : IsLabelled s t node (start_label node)) (lt : node < length s.labels) where
  pub start_here : IsOrigin t node
  start_here = let here = label_here g s t node _ set lt in (ap (λ (l : NodeLabel). l.cost) here, ap (λ (l : NodeLabel). l.parent) here)

  there : (v : ℕ) → (v ≡ node → ⊥) → label_at t v ≡ label_at s v
  there v ne = label_there g s t node _ set lt v ne

  down : (v : ℕ) → cost_at t v ≤ cost_at s v
  down = set_down g s t node _ set lt (omega arith)

  pub start_origins : MoreOrigins s t node
  start_origins v = elim (cases_eq v node) [
    | inl e ↦ (λ o. inr e, λ h. subst (IsOrigin t) (sym e) start_here)
    | inr ne ↦ (λ o. inl (same_origin t s v (sym (there v ne)) o), λ h. elim h [ inl old ↦ same_origin s t v (there v ne) old | inr e ↦ absurd (ne e) ])
  ]

  pub start_keeps : KeepsOrigins s t
  start_keeps v o = (start_origins v).1 (inl o)

  pub start_wave : IsWave g s → IsWave g t
  start_wave wave = record {
    rows = ap length set.labels ∙ length-set _ _ _ ∙ wave.rows;
    near = λ v. let d = down v in let n = wave.near v in omega (arith, d, n);
    within = let same = set.limit in let n = wave.within in omega (arith, same, n);
    boxes = still_serves g s t set.boxes start_keeps wave.boxes;
    sized = ap length set.known ∙ wave.sized;
    known = rw (set.boxes, set.known) wave.known;
    entered = λ v reached. elim (cases_eq v node) [
      | inl e ↦ inl (subst (IsOrigin t) (sym e) start_here)
      | inr ne ↦
          let same = there v ne in
          let key = ap (λ (l : NodeLabel). l.cost) same in
          elim (wave.entered v (omega (arith, key, reached))) [
            | inl o ↦ inl (same_origin s t v same o)
            | inr e ↦ inr (entered_lower g s t node _ set lt v down same e)
          ]
    ];
    tracks = λ e h. wave.tracks e (rw set.queue at h);
  }

  went_start : (v b : ℕ) → cost_at t v ≡ cost_at s v → WentOn g s (cost_at s v) b → WentOn g t (cost_at t v) b
  went_start v b same (inl out) = inl (bound_out g s t b _ _ start_keeps (let limit = set.limit in omega (arith, limit)) (omega (arith, same)) out)
  went_start v b same (inr went) = inr (let d = down b in let limit = set.limit in omega (arith, d, limit, same, went))

  -- all but the start is as it was
  pub start_but : IsComplete g s → IsCompleteBut g t (λ v. v ≡ node)
  start_but complete = record {
    each = λ v reached b edge inside. elim (cases_eq v node) [
      | inl e ↦ inr (inr e)
      | inr ne ↦
          let same = ap (λ (l : NodeLabel). l.cost) (there v ne) in
          elim (complete.each v (omega (arith, same, reached)) b edge inside) [
            | inl went ↦ inl (went_start v b same went)
            | inr other ↦ elim other [
              | inl covered ↦ inr (inl (still_covered g s t v b start_keeps (λ e h. rw set.queue h) same covered))
              | inr none ↦ absurd none
            ]
          ]
    ];
  }

  -- a start that is no sink
  pub start_best : (IsWanted g.space node → ⊥) → t.best ≡ s.best → IsBest g s → IsBest g t
  start_best other same best =
      let kept : (b : ℕ) → IsWanted g.space b → label_at t b ≡ label_at s b = λ b wanted. there b (λ e. other (subst (IsWanted g.space) e wanted)) in
      record {
        low = λ b target.
            let l = best.low b (still_open g s t b start_keeps target) in
            let k = ap (λ (l : NodeLabel). l.cost) (kept b target.0) in
            omega (arith, l, k, same);
        met = elim best.met [
          | inl far ↦ inl (same ∙ far)
          | inr m ↦ inr (m.0, (m.1.0, λ o. m.1.1 (same_origin t s m.0 (sym (kept m.0 m.1.0)) o)), ap (λ (l : NodeLabel). l.cost) (kept m.0 m.1.0) ∙ m.2 ∙ sym same)
        ];
      }

  -- from the start no way leads on
  pub end_starts : IsWave g s → IsComplete g s → IsEnd g s node → StartsAt g s t node
  end_starts wave complete end = record {
    wave = start_wave wave;
    complete = complete_went g t (λ v. v ≡ node) (start_but complete) (λ v e b edge inside. inl (dead_bound g t b _ (still_dead g s t b start_keeps (end b (rw e at edge)))));
    origins = start_origins;
  }

  -- then steps settle the start
  pub spread_but : (u : Wave) → Spreads g t u → IsComplete g s → IsCompleteBut g u (λ v. v ≡ node)
  spread_but u spreads complete = complete_lower g t u (λ v. ⊥) (λ v. v ≡ node) (λ v. v ≡ node) spreads.lowers (λ v e same. e) (λ v none. absurd none) (start_but complete)

  pub spread_origins : (u : Wave) → Spreads g t u → MoreOrigins s u node
  spread_origins u spreads v = (
    λ o. (start_origins v).0 ((spreads.lowers.origins v).0 o),
    λ h. (spreads.lowers.origins v).1 ((start_origins v).1 h),
  )

  pub spread_complete : (u : Wave) → Spreads g t u → IsComplete g s → WentAlong g u node 0 → IsComplete g u
  spread_complete u spreads complete went = complete_went g u (λ v. v ≡ node) (spread_but u spreads complete)
      (λ v e b edge inside. went_up g u 0 (cost_at u v) b (omega arith) (went b (rw e at edge) inside))

  pub spread_starts : (u : Wave) → Spreads g t u → IsComplete g s → WentAlong g u node 0 → StartsAt g s u node
  spread_starts u spreads complete went = record {
    wave = spreads.wave;
    complete = spread_complete u spreads complete went;
    origins = spread_origins u spreads;
  }

-- ---- a wire
pub place_in : (g : Ground) → IsGround g → (wire : ℕ) → HasPlace g.tables.wires wire → wire < node_count g.space
place_in g ok wire place = subst (λ v. v < node_count g.space) place.is (wire_within g ok (place_of g.tables.wires wire) place.on)

module _ (g : Ground) (ok : IsGround g) (s n t u : Wave) (wire : ℕ) (place : HasPlace g.tables.wires wire) where
  abbrev at : GroupTrack
  at = place_of g.tables.wires wire

  -- the wire waits in an entry of its own
  pub wire_starts : (e : Waiting) (wires : ℕ) → IsNoted s n FAR → IsWave g n → IsComplete g s → wire < length n.labels → IsLabelled n t wire (start_label wire) → IsPushed t u e
      → e.key ≤ left_over wires → IsLow n.boxes (wire_of (group_at (groups_of g) at.group)) wires → e.label ≡ 0 → e.group ≡ at.group → PutsBit 0 e.tracks at.track → StartsAt g s u wire
  wire_starts e wires noted wave complete lt set pushed key low label group bit =
      let down = noted_lowers g s n FAR noted in
      let before : IsComplete g n = complete_lower g s n (λ v. ⊥) (λ v. ⊥) (λ v. ⊥) down (λ v none same. none) (λ v none. none) complete in
      let wave_t = start_wave g n t wire set lt wave in
      let only : (j : ℕ) → bit_at e.tracks j ≡ 1 → j ≡ at.track = λ j one. elim (cases_eq j at.track) [
        | inl e ↦ e
        | inr ne ↦ absurd (let o = bit.others j ne in let z = bit_at-zero j in omega (arith, one, o, z))
      ] in
      let tracks : AreTracks g e = λ j one. rw (group, only j one) place.on in
      let is : wire_on (groups_of g) (on_track e.group at.track) ≡ wire = ap (λ k. wire_on (groups_of g) (on_track k at.track)) group ∙ place.is in
      let of : IsOf g t e wire = record {
        holds = record { track = at.track; bit = bit.here; wire = is };
        label = label ∙ sym (start_here g n t wire set lt).0;
      } in
      let more = pushed_lowers g t u e pushed in
      let bound = group_bound g ok at place.on t wave_t.boxes wires (rw set.boxes low) in
      let but : IsCompleteBut g u (λ v. v ≡ wire) = complete_lower g t u (λ v. ⊥) (λ v. v ≡ wire) (λ v. v ≡ wire) more (λ v e same. e) (λ v none. absurd none) (start_but g n t wire set lt before) in
      record {
        wave = pushed_wave g t u e pushed wave_t tracks;
        complete = settled_complete g u wire but (waiting_settled g u wire (pushed_waits g t u e pushed wire of (λ b way target walk.
            let l = bound b way target (rw place.is walk) in
            omega (arith, l, key, label))));
        origins = λ v. (
          λ o. elim ((start_origins g n t wire set lt v).0 ((more.origins v).0 o)) [ inl old ↦ inl ((down.origins v).0 old) | inr e ↦ inr e ],
          λ h. (more.origins v).1 ((start_origins g n t wire set lt v).1 (elim h [ inl old ↦ inl ((down.origins v).1 old) | inr e ↦ inr e ])),
        );
      }
