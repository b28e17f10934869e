-- What offering a wire a way does.
use Rattle.std.proofs.Common.{◌≡◌, ℕ, ◌+◌, ◌-◌, ◌<◌, ◌≤◌, true, false, length, sum_by, inl, inr, refl, ap, ◌∙◌, arith}
use Rattle.std.proofs.lemmas.Bool.{false≢true}
use Rattle.std.specs.Prelude.{cond, min}
use Rattle.group_wave.specs.kept.WaveState.{FAR, Wave}
use Rattle.wavefront.specs.Space.{entry_cost}
use Rattle.wavefront.proofs.WaysLeft.{wire_paid}
use Rattle.wave_ground.specs.kept.Grounds.{Ground, IsGround}
use Rattle.wave_queue.specs.kept.Queues.{Waiting}
use Rattle.group_wave.specs.kept.Wave.{AreTracks, IsBound, IsOf, IsWave, WentOn, cost_at, price_of, weight_of, work_of}
use Rattle.group_wave.specs.kept.Steps.{Enters, IsLabelled, IsNoted, IsPushed, IsStep, KeepsLabel, KeepsSinks, Lowers, RelaxesTrack, Spreads}
use Rattle.group_wave.proofs.Lower.{entered_here, keeps, label_here, label_there, lowers_then, set_enters, set_keeps, set_lowers, set_same_work, set_wave, set_work, still_open}
use Rattle.group_wave.proofs.Noted.{noted_label, noted_lowers, noted_sinks, noted_wave, noted_work}
use Rattle.group_wave.proofs.Pushed.{new_wait, pushed_cost, pushed_label, pushed_wave, pushed_work}
use Rattle.group_wave.proofs.Sinks.{sinks_best, sinks_then, wire_no_sink}

module _ (g : Ground) (ok : IsGround g) (s : Wave) (wave : IsWave g s) (label wire parent : ℕ) (step : IsStep g s label wire parent) where
  paid : 320 ≤ entry_cost g.space wire
  paid = wire_paid g.space wire step.is

  row_in : wire < length s.labels
  row_in = let rows = wave.rows in let lt = step.within in omega (arith, rows, lt)

  -- the way costs no less than what is there
  pub relaxed_stays : (least : ℕ) → cost_at s wire ≤ label + entry_cost g.space wire → RelaxesTrack g s s label least wire false
  relaxed_stays least low = record {
    wave = wave;
    lowers = record {
      down = λ v. omega arith;
      wait = λ v. inl refl;
      origins = λ v. (λ o. o, λ o. o);
      kept = λ e h. h;
      limit = omega arith;
      boxes = refl;
    };
    at = λ e. absurd (false≢true e);
    went = inr (omega (arith, low));
    work = omega arith;
    sinks = record { best = refl; labels = λ b wanted. refl };
  }

  -- nor does any way over the node
  pub relaxed_low : (least : ℕ) → cost_at s wire < least → least ≤ label + 320 → RelaxesTrack g s s label least wire false
  relaxed_low least low up = relaxed_stays least (let c = paid in omega (arith, low, up, c))

  -- it is left out
  module _ (t : Wave) (out least : ℕ) (noted : IsNoted s t out) (known : t.known ≡ s.known) where
    left_by : WentOn g t label wire → RelaxesTrack g s t label least wire false
    left_by went = record {
      wave = noted_wave g s t out noted wave (ap length known ∙ wave.sized) (rw (noted.boxes, known) wave.known);
      lowers =
          let low = noted_lowers g s t out noted in
          record { down = low.down; wait = λ v. inl (ap (λ l. l.cost) (noted_label g s t out noted v)); origins = low.origins; kept = low.kept; limit = low.limit; boxes = low.boxes };
      at = λ e. absurd (false≢true e);
      went = went;
      work = let same = noted_work g s t out noted in omega (arith, same);
      sinks = noted_sinks g s t out noted;
    }

    -- since it costs too much
    pub relaxed_out : out ≤ label + entry_cost g.space wire → RelaxesTrack g s t label least wire false
    relaxed_out dear = left_by (inr (let limit = noted.limit in omega (arith, limit, dear)))

    -- since each way on over it does
    pub relaxed_past : IsBound g s wire (out - (label + entry_cost g.space wire)) → RelaxesTrack g s t label least wire false
    relaxed_past bound = left_by (inl (λ b way target walk.
        let low = bound b way (still_open g s t b (keeps s t (noted_lowers g s t out noted).origins) target) walk in
        let limit = noted.limit in
        omega (arith, low, limit)))

  module _ (t : Wave) (cost price : ℕ) (priced : price ≡ entry_cost g.space wire) (set : IsLabelled s t wire (record { cost = cost; parent = parent; price = price })) (best : t.best ≡ s.best) where
    set_sinks : KeepsSinks g s t
    set_sinks = record {
      best = best;
      labels = λ b wanted. label_there g s t wire _ set row_in b (λ e. let sink = ok.space.are_sinks b wanted in wire_no_sink g.space.device wire step.is (rw e at sink));
    }

    here : cost_at t wire ≡ cost
    here = ap (λ l. l.cost) (label_here g s t wire _ set row_in)

    module _ (less : cost < cost_at s wire) (near : cost < FAR) (above : label + entry_cost g.space wire ≤ cost) (below : cost ≤ label + entry_cost g.space wire) where
      pub lowered : Lowers g s t (λ v. v ≡ wire)
      lowered = let from = step.from in set_lowers g s t wire _ set row_in less (omega (arith, from, above))

      lowered_wave : IsWave g t
      lowered_wave = set_wave g s t wire _ set row_in wave (omega (arith, less)) near lowered.origins
          (set_enters g s t wire _ set row_in label (omega (arith, less)) step.from step.near step.edge step.inside above priced)

      lowered_work : work_of t + 3 ≤ work_of s
      lowered_work = let a = set_work g s t wire _ set row_in less in let b = ap (λ q. sum_by weight_of q) set.queue in omega (arith, a, b)

      went_here : WentOn g t label wire
      went_here = inr (let h = here in omega (arith, h, below))

      -- the label is the least there can be: its entry is yet to come
      pub relaxed_fresh : (least : ℕ) → cost ≡ least → RelaxesTrack g s t label least wire true
      relaxed_fresh least at = record {
        wave = lowered_wave;
        lowers = let low = lowered in record {
          down = low.down;
          wait = λ v. elim (low.wait v) [ inl e ↦ inl e | inr later ↦ elim later [ inl settled ↦ inr (inl settled) | inr new ↦ inr (inr (refl, new)) ] ];
          origins = low.origins;
          kept = low.kept;
          limit = low.limit;
          boxes = low.boxes;
        };
        at = λ e. here ∙ at;
        went = went_here;
        work = let w = lowered_work in omega (arith, w);
        sinks = set_sinks;
      }

      -- else an entry of its own comes at once
      pub relaxed_alone : (u : Wave) (e : Waiting) (least : ℕ) → IsPushed t u e → IsOf g t e wire → IsBound g t wire (e.key - e.label) → AreTracks g e → e.begun ≡ false → RelaxesTrack g s u label least wire false
      relaxed_alone u e least push of bound tracks whole = record {
        wave = pushed_wave g t u e push lowered_wave tracks;
        lowers = let low = new_wait g t u e push s (λ v. v ≡ wire) lowered (λ v same. rw same of) (λ v same. rw same bound) in record {
          down = low.down;
          wait = λ v. elim (low.wait v) [ inl same ↦ inl same | inr later ↦ elim later [ inl settled ↦ inr (inl settled) | inr none ↦ absurd none ] ];
          origins = low.origins;
          kept = low.kept;
          limit = low.limit;
          boxes = low.boxes;
        };
        at = λ e. absurd (false≢true e);
        went = inr (let h = here in let k = pushed_cost g t u e push wire in let limit = push.limit in omega (arith, h, k, below));
        work = let w = lowered_work in let p = pushed_work g t u e push in let weight = ap {B = ℕ} (λ b. cond b 1 2) whole in omega (arith, w, p, weight);
        sinks = sinks_then g s t u set_sinks (record { best = push.best; labels = λ b wanted. pushed_label g t u e push b });
      }

  -- no label goes down
  pub relaxed_kept : (t : Wave) (cost greatest least : ℕ) → greatest ≤ FAR → cost ≡ min (label + entry_cost g.space wire) greatest → KeepsLabel s t wire cost parent greatest → RelaxesTrack g s t label least wire false
  relaxed_kept t cost greatest least narrow sum (inl stays) = rw stays.0 (relaxed_stays least (let low = stays.1 in omega (arith, low, sum)))
  relaxed_kept t cost greatest least narrow sum (inr (inl same)) =
      let c = paid in
      let e = same.same in
      let fits = same.fits in
      let priced = (entered_here g s wave wire (omega (arith, e, fits, narrow)) (omega (arith, e, sum, c, fits))).priced in
      let low = set_keeps g s t wire _ same.set row_in e (omega (arith, sum, c, fits)) in
      record {
        wave = set_wave g s t wire _ same.set row_in wave (omega (arith, e)) (omega (arith, fits, narrow)) low.origins
            (set_enters g s t wire _ same.set row_in label (omega (arith, e)) step.from step.near step.edge step.inside (omega (arith, sum, fits)) priced);
        lowers = record { down = low.down; wait = λ v. elim (low.wait v) [ inl f ↦ inl f | inr later ↦ elim later [ inl settled ↦ inr (inl settled) | inr none ↦ absurd none ] ]; origins = low.origins; kept = low.kept; limit = low.limit; boxes = low.boxes };
        at = λ f. absurd (false≢true f);
        went = inr (let h = ap (λ l. l.cost) (label_here g s t wire _ same.set row_in) in omega (arith, h, sum));
        work = let a = set_same_work g s t wire _ same.set row_in e in let b = ap (λ q. sum_by weight_of q) same.set.queue in omega (arith, a, b);
        sinks = set_sinks t cost (price_of s wire) priced same.set same.best;
      }
  relaxed_kept t cost greatest least narrow sum (inr (inr left)) =
      relaxed_out t greatest least left.noted left.known (let out = left.out in omega (arith, out, sum))

-- what is known of groups changes before a wire is offered the way
pub track_after : (g : Ground) (old s t : Wave) (label least wire limit : ℕ) → IsNoted old s limit → RelaxesTrack g s t label least wire false → RelaxesTrack g old t label least wire false
track_after g old s t label least wire limit noted step = record {
  wave = step.wave;
  lowers = lowers_then g old s t _ _ _ (noted_lowers g old s limit noted) step.lowers (λ v none. absurd none) (λ v none. none);
  at = λ e. absurd (false≢true e);
  went = step.went;
  work = let a = noted_work g old s limit noted in let b = step.work in omega (arith, a, b);
  sinks = sinks_then g old s t (noted_sinks g old s limit noted) step.sinks;
}

pub step_after : (g : Ground) (old s : Wave) (label wire parent limit : ℕ) → IsNoted old s limit → IsStep g old label wire parent → IsStep g s label wire parent
step_after g old s label wire parent limit noted step = record {
  edge = step.edge;
  inside = step.inside;
  from = let same = ap (λ l. l.cost) (noted_label g old s limit noted parent) in let from = step.from in omega (arith, same, from);
  near = step.near;
  is = step.is;
  within = step.within;
}

-- no node is yet to wait
pub track_spreads : (g : Ground) (s t : Wave) (label least wire : ℕ) → RelaxesTrack g s t label least wire false → Spreads g s t
track_spreads g s t label least wire step = record {
  wave = step.wave;
  lowers =
      let low = step.lowers in
      record {
        down = low.down;
        wait = λ v. elim (low.wait v) [ inl same ↦ inl same | inr later ↦ elim later [ inl settled ↦ inr (inl settled) | inr none ↦ absurd (false≢true none.0) ] ];
        origins = low.origins;
        kept = low.kept;
        limit = low.limit;
        boxes = low.boxes;
      };
  work = let w = step.work in omega (arith, w);
  best = sinks_best g s t step.lowers.origins step.sinks;
}

-- so it was offered the way
pub track_enters : (g : Ground) (s t : Wave) (label least wire : ℕ) → RelaxesTrack g s t label least wire false → Enters g s t label wire
track_enters g s t label least wire step = record { spreads = track_spreads g s t label least wire step; went = λ inside. step.went }
