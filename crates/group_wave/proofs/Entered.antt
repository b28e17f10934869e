-- What offering an input pin or a sink a way does.
use Rattle.std.proofs.Common.{◌≡◌, ℕ, ◌+◌, ◌<◌, ◌≤◌, [], ◌∷◌, length, sum_by, inl, inr, sym, ap, ◌∙◌, subst, arith}
use Rattle.std.specs.Prelude.{min}
use Rattle.std.proofs.lemmas.Bool.{cases_eq, cases_lt, false≢true}
use Rattle.routing_problem.specs.InputPins.{IsPinOf}
use Rattle.wavefront.specs.Space.{HasEdge, IsInside, entry_cost}
use Rattle.wavefront.specs.kept.Spaces.{LeadsOnlyTo}
use Rattle.wavefront.proofs.Spaces.{pin_leads}
use Rattle.track_groups.specs.declared.group.Group.{Group}
use Rattle.track_groups.specs.Groups.{on_track, wire_on}
use Rattle.wave_ground.specs.kept.Grounds.{Ground, IsGround, groups_of}
use Rattle.wave_queue.specs.kept.Queues.{Waiting}
use Rattle.group_wave.specs.kept.WaveState.{FAR, Wave}
use Rattle.group_wave.specs.kept.Wave.{IsBest, IsDead, IsOpen, IsWave, WentOn, cost_at, weight_of}
use Rattle.group_wave.specs.kept.Steps.{Enters, IsEntering, IsFrom, IsLabelled, IsLive, IsNoted, IsOut, KeepsLabel, Lowers, LowersPin, LowersSink, SameOrigins, Spreads}
use Rattle.group_wave.proofs.Lower.{entered_here, keeps, label_here, label_there, lowers_refl, lowers_then, set_enters, set_keeps, set_lowers, set_same_work, set_wave, set_work, still_open, went_up}
use Rattle.group_wave.proofs.Noted.{noted_lowers, noted_sinks, noted_wave, noted_work}
use Rattle.group_wave.proofs.Sinks.{sinks_best}

pub spreads_refl : (g : Ground) (s : Wave) → IsWave g s → Spreads g s s
spreads_refl g s wave = record { wave = wave; lowers = lowers_refl g s; work = omega arith; best = λ b. b }

pub spreads_then : (g : Ground) (s t u : Wave) → Spreads g s t → Spreads g t u → Spreads g s u
spreads_then g s t u a b = record {
  wave = b.wave;
  lowers = lowers_then g s t u _ _ _ a.lowers b.lowers (λ v none same. none) (λ v none. none);
  work = let x = a.work in let y = b.work in omega (arith, x, y);
  best = λ best. b.best (a.best best);
}

-- an entry that has a track still does
pub live_down : (g : Ground) (s t : Wave) (e : Waiting) → Spreads g s t → IsLive g s e → IsLive g t e
live_down g s t e spreads live = record {
  tracks = live.tracks;
  labels = λ j one. let d = spreads.lowers.down (wire_on (groups_of g) (on_track e.group j)) in let l = live.labels j one in omega (arith, d, l);
  some = live.some;
}

-- an entry that is out still is
pub still_out : (g : Ground) (s t : Wave) (e : Waiting) (greatest : ℕ) (is : Group) → Spreads g s t → IsOut g s e greatest is → IsOut g t e greatest is
still_out g s t e greatest is spreads out = record {
  ground = out.ground;
  wave = spreads.wave;
  group = out.group;
  small = out.small;
  live = live_down g s t e spreads out.live;
  fits = out.fits;
}

-- what is known of groups changes
pub noted_spreads : (g : Ground) (s t : Wave) (limit : ℕ) → IsNoted s t limit → IsWave g t → Spreads g s t
noted_spreads g s t limit noted wave =
    let low = noted_lowers g s t limit noted in
    record {
      wave = wave;
      lowers = low;
      work = let same = noted_work g s t limit noted in omega (arith, same);
      best = sinks_best g s t low.origins (noted_sinks g s t limit noted);
    }

-- where no cost changes, the best is as it was
best_same : (g : Ground) (s t : Wave) → SameOrigins s t → t.best ≡ s.best → ((v : ℕ) → cost_at t v ≡ cost_at s v) → IsBest g s → IsBest g t
best_same g s t origins at same best = record {
  low = λ b target. let l = best.low b (still_open g s t b (keeps s t origins) target) in let k = same b in omega (arith, l, k, at);
  met = elim best.met [
    | inl far ↦ inl (at ∙ far)
    | inr met ↦ inr (met.0, (met.1.0, λ o. met.1.1 ((origins met.0).0 o)), same met.0 ∙ met.2 ∙ sym at)
  ];
}

module _ (g : Ground) (ok : IsGround g) (s : Wave) (wave : IsWave g s) (label node parent : ℕ) (from : IsFrom g s label parent node) where
  row_in : node < length s.labels
  row_in = let rows = wave.rows in let lt = ok.space.range parent node from.edge in omega (arith, rows, lt)

  -- outside the box nothing is owed
  pub entered_outside : (IsInside g.space node → ⊥) → Enters g s s label node
  entered_outside off = record { spreads = spreads_refl g s wave; went = λ inside. absurd (off inside) }

  -- the way is left out
  pub entered_out : (t : Wave) (out : ℕ) → IsNoted s t out → t.known ≡ s.known → out ≤ label + entry_cost g.space node → Enters g s t label node
  entered_out t out noted known dear =
      let low = noted_lowers g s t out noted in
      record {
        spreads = record {
          wave = noted_wave g s t out noted wave (ap length known ∙ wave.sized) (rw (noted.boxes, known) wave.known);
          lowers = low;
          work = let w = noted_work g s t out noted in omega (arith, w);
          best = sinks_best g s t low.origins (noted_sinks g s t out noted);
        };
        went = λ h. inr (let limit = noted.limit in omega (arith, dear, limit));
      }

  entered_stays : cost_at s node ≤ label + entry_cost g.space node → Enters g s s label node
  entered_stays low = record { spreads = spreads_refl g s wave; went = λ h. inr (omega (arith, low)) }

  -- no label goes down
  pub entered_kept : (t : Wave) (cost greatest : ℕ) → greatest ≤ FAR → cost ≡ min (label + entry_cost g.space node) greatest → KeepsLabel s t node cost parent greatest → Enters g s t label node
  entered_kept t cost greatest narrow sum (inl stays) = rw stays.0 (entered_stays (let low = stays.1 in omega (arith, low, sum)))
  entered_kept t cost greatest narrow sum (inr (inl same)) =
      let e = same.same in
      let fits = same.fits in
      let some = from.some in
      let was = entered_here g s wave node (omega (arith, e, fits, narrow)) (omega (arith, e, sum, some, fits)) in
      let low = set_keeps g s t node _ same.set row_in e (omega (arith, sum, some, fits)) in
      let costs : (v : ℕ) → cost_at t v ≡ cost_at s v = λ v. elim (cases_eq v node) [
        | inl f ↦ rw f (ap (λ l. l.cost) (label_here g s t node _ same.set row_in) ∙ e)
        | inr ne ↦ ap (λ l. l.cost) (label_there g s t node _ same.set row_in v ne)
      ] in
      record {
        spreads = record {
          wave = set_wave g s t node _ same.set row_in wave (omega (arith, e)) (omega (arith, fits, narrow)) low.origins
              (set_enters g s t node _ same.set row_in label (omega (arith, e)) from.from from.near from.edge was.inside (omega (arith, sum, fits)) was.priced);
          lowers = low;
          work = let a = set_same_work g s t node _ same.set row_in e in let b = ap (λ q. sum_by weight_of q) same.set.queue in omega (arith, a, b);
          best = best_same g s t low.origins same.best costs;
        };
        went = λ h. inr (let here = ap (λ l. l.cost) (label_here g s t node _ same.set row_in) in omega (arith, here, sum));
      }
  entered_kept t cost greatest narrow sum (inr (inr left)) = entered_out t greatest left.noted left.known (let out = left.out in omega (arith, out, sum))

-- ---- a sink
module _ (g : Ground) (ok : IsGround g) (s : Wave) (wave : IsWave g s) (sink : ℕ) (target : IsOpen g s sink) where
  no_edge : (b : ℕ) → HasEdge g.space sink b → ⊥
  no_edge b edge = false≢true (sym (ok.space.ends sink b edge) ∙ ok.space.are_sinks sink target.0)

  sink_in : sink < length s.labels
  sink_in = let rows = wave.rows in let lt = ok.space.sinks_in sink target.0 in omega (arith, rows, lt)

  pub sink_lowered : (t : Wave) (label cost parent price : ℕ) → LowersSink s t sink (record { cost = cost; parent = parent; price = price }) → IsFrom g s label parent sink → IsInside g.space sink → cost < cost_at s sink → cost < FAR → cost ≡ label + entry_cost g.space sink → price ≡ entry_cost g.space sink → Enters g s t label sink
  sink_lowered t label cost parent price low from inside less near sum priced =
      let start = from.from in
      let set = low.set in
      let down = set_lowers g s t sink _ set sink_in less (omega (arith, start, sum)) in
      let here : cost_at t sink ≡ cost = ap (λ l. l.cost) (label_here g s t sink _ set sink_in) in
      record {
        spreads = record {
          wave = set_wave g s t sink _ set sink_in wave (omega (arith, less)) near down.origins
              (set_enters g s t sink _ set sink_in label (omega (arith, less)) start from.near from.edge inside (omega (arith, sum)) priced);
          lowers = record {
            down = down.down;
            wait = λ v. elim (down.wait v) [
              | inl same ↦ inl same
              | inr later ↦ elim later [ inl settled ↦ inr (inl settled) | inr e ↦ inr (inl (λ b edge within. absurd (no_edge b (rw e at edge)))) ]
            ];
            origins = down.origins;
            kept = down.kept;
            limit = down.limit;
            boxes = down.boxes;
          };
          work = let a = set_work g s t sink _ set sink_in less in let b = ap (λ q. sum_by weight_of q) set.queue in omega (arith, a, b);
          best = nearer t cost parent price low down.origins here less near;
        };
        went = λ h. inr (omega (arith, here, sum));
      }
    where
      nearer : (t : Wave) (cost parent price : ℕ) (low : LowersSink s t sink (record { cost = cost; parent = parent; price = price })) → SameOrigins s t → cost_at t sink ≡ cost → cost < cost_at s sink → cost < FAR → IsBest g s → IsBest g t
      nearer t cost parent price low origins here less near best = record {
        low = λ b open_now. let at = low.best in elim (cases_eq b sink) [
          | inl e ↦ rw e (omega (arith, at, here))
          | inr ne ↦
              let l = best.low b (still_open g s t b (keeps s t origins) open_now) in
              let k = ap (λ l. l.cost) (label_there g s t sink _ low.set sink_in b ne) in
              omega (arith, at, l, k)
        ];
        met = let at = low.best in elim (cases_lt cost s.best) [
          | inl new ↦ inr (sink, (target.0, λ o. target.1 ((origins sink).0 o)), omega (arith, at, new, here))
          | inr old ↦ elim best.met [
            | inl far ↦ absurd (omega (arith, old, far, near))
            | inr met ↦ elim (cases_eq met.0 sink) [
              | inl e ↦ absurd (let was = met.2 in let k = ap (cost_at s) e in omega (arith, was, k, old, less))
              | inr ne ↦
                  let k = ap (λ l. l.cost) (label_there g s t sink _ low.set sink_in met.0 ne) in
                  let was = met.2 in
                  inr (met.0, (met.1.0, λ o. met.1.1 ((origins met.0).0 o)), omega (arith, k, was, at, old))
            ]
          ]
        ];
      }

-- ---- an input pin
module _ (g : Ground) (ok : IsGround g) (s : Wave) (wave : IsWave g s) (sink pin : ℕ) (tap : IsPinOf g.space.device sink pin) where
  leads : LeadsOnlyTo g.space pin sink
  leads = pin_leads g.space pin sink tap.leads tap.kind

  pub sink_row : sink < length s.labels
  sink_row = let rows = wave.rows in let n = ok.space.range pin sink leads.edge in omega (arith, rows, n)

  -- where its sink isn't open it leads nowhere
  pub shut_dead : (IsOpen g s sink → ⊥) → IsDead g s pin
  shut_dead shut b [] target walk = false≢true (sym (ok.space.ends pin sink leads.edge) ∙ ok.space.are_sinks pin (rw walk target.0))
  shut_dead shut b (u ∷ []) target walk = shut (subst (IsOpen g s) (sym walk.2 ∙ leads.only u walk.0) target)
  shut_dead shut b (u ∷ x ∷ way) target walk = leads.last x (subst (λ y. HasEdge g.space y x) (leads.only u walk.0) walk.2.0)

  -- a wire that it taps
  pub tap_from : (label wire : ℕ) → HasEdge g.space wire pin → cost_at s wire ≤ label → label < FAR → IsFrom g s label wire pin
  tap_from label wire edge from near = record { edge = edge; from = from; near = near; some = let costs = ok.space.costly wire pin sink edge leads.edge in omega (arith, costs) }

  -- its label is lowered
  module _ (t : Wave) (cost parent price : ℕ) (priced : price ≡ entry_cost g.space pin) (set : IsLabelled s t pin (record { cost = cost; parent = parent; price = price })) (enters : IsEntering g s cost parent pin) (near : cost < FAR) where
    pin_in : pin < length s.labels
    pin_in = let rows = wave.rows in let n = ok.space.range parent pin enters.edge in omega (arith, rows, n)

    pin_down : Lowers g s t (λ v. v ≡ pin)
    pin_down = let less = enters.less in let paid = enters.paid in set_lowers g s t pin _ set pin_in less (omega (arith, paid))

    pub pin_wave : IsWave g t
    pin_wave =
        let less = enters.less in
        set_wave g s t pin _ set pin_in wave (omega (arith, less)) near pin_down.origins
        (set_enters g s t pin _ set pin_in (cost_at s parent) (omega (arith, less)) (omega arith) enters.reached enters.edge enters.inside enters.paid priced)

    -- and its sink is entered from it
    pub pin_from : IsFrom g t cost pin sink
    pin_from = record {
      edge = leads.edge;
      from = let here = ap (λ l. l.cost) (label_here g s t pin _ set pin_in) in omega (arith, here);
      near = near;
      some = let paid = enters.paid in let costs = ok.space.costly parent pin sink enters.edge leads.edge in omega (arith, paid, costs);
    }

  -- and its sink offered the way over it
  pub pin_lowered : (t u : Wave) (cost parent price : ℕ) → price ≡ entry_cost g.space pin → IsLabelled s t pin (record { cost = cost; parent = parent; price = price }) → t.best ≡ s.best → IsEntering g s cost parent pin → cost < FAR → Enters g t u cost sink → LowersPin g s u pin cost
  pin_lowered t u cost parent price priced set best enters near after =
      let lt : pin < length s.labels = let rows = wave.rows in let n = ok.space.range parent pin enters.edge in omega (arith, rows, n) in
      let less = enters.less in
      let paid = enters.paid in
      let down = set_lowers g s t pin _ set lt less (omega (arith, paid)) in
      let here : cost_at t pin ≡ cost = ap (λ l. l.cost) (label_here g s t pin _ set lt) in
      let wave_then = set_wave g s t pin _ set lt wave (omega (arith, less)) near down.origins
      (set_enters g s t pin _ set lt (cost_at s parent) (omega (arith, less)) (omega arith) enters.reached enters.edge enters.inside paid priced) in
      let second = after.spreads in
      record {
        spreads = record {
          wave = second.wave;
          lowers = let both = lowers_then g s t u (λ v. v ≡ pin) (λ v. ⊥) (λ v. (v ≡ pin) × (cost_at u v ≡ cost_at t v)) down second.lowers (λ v e same. (e, same)) (λ v none. absurd none) in record {
            down = both.down;
            wait = λ v. elim (both.wait v) [
              | inl same ↦ inl same
              | inr later ↦ elim later [
                | inl settled ↦ inr (inl settled)
                | inr new ↦ inr (inl (λ b edge within.
                    let to : b ≡ sink = leads.only b (rw new.0 at edge) in
                    let k : cost_at u v ≡ cost = new.1 ∙ ap (cost_at t) new.0 ∙ here in
                    inl (went_up g u cost (cost_at u v) b (omega (arith, k)) (subst (WentOn g u cost) (sym to) (after.went (subst (IsInside g.space) to within))))))
              ]
            ];
            origins = both.origins;
            kept = both.kept;
            limit = both.limit;
            boxes = both.boxes;
          };
          work = let a = set_work g s t pin _ set lt less in let b = ap (λ q. sum_by weight_of q) set.queue in let c = second.work in omega (arith, a, b, c);
          best = λ was. second.best (pin_best t cost parent price set lt best down.origins was);
        };
        at = let d = second.lowers.down pin in omega (arith, d, here);
      }
    where
      pin_best : (t : Wave) (cost parent price : ℕ) (set : IsLabelled s t pin (record { cost = cost; parent = parent; price = price })) → pin < length s.labels → t.best ≡ s.best → SameOrigins s t → IsBest g s → IsBest g t
      pin_best t cost parent price set lt best origins was = sinks_best g s t origins (record {
        best = best;
        labels = λ b wanted. label_there g s t pin _ set lt b (λ e. false≢true (sym (ok.space.ends pin sink leads.edge) ∙ ok.space.are_sinks pin (rw e at wanted)));
      }) was
