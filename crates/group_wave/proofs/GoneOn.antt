-- What going on from an entry that was taken out does.
use Rattle.std.proofs.Common.{◌≡◌, ℕ, ◌+◌, ◌≤◌, cond, inl, inr, refl, sym, ap, ◌∙◌, arith}
use Rattle.std.specs.Int.{bit_at}
use Rattle.track_groups.specs.Groups.{group_at, on_track}
use Rattle.wave_ground.specs.kept.Boxes.{IsLow, wire_of}
use Rattle.wave_ground.specs.kept.Grounds.{Ground, IsGround, groups_of}
use Rattle.wave_queue.specs.kept.Queues.{Waiting}
use Rattle.group_wave.specs.kept.WaveState.{Wave}
use Rattle.group_wave.specs.kept.Wave.{AreTracks, IsComplete, IsCompleteBut, IsOf, IsWave, cost_at, work_of}
use Rattle.group_wave.specs.kept.Steps.{AreTracksLeft, IsLive, IsNoted, IsPopped, Settles, Spreads, WaitsAgain}
use Rattle.group_wave.proofs.Entered.{noted_spreads}
use Rattle.group_wave.proofs.Expanded.{pushed_settles}
use Rattle.group_wave.proofs.Grouped.{group_bound}
use Rattle.group_wave.proofs.Lower.{complete_lower, origins_then, still_of, waiting_settled}
use Rattle.group_wave.proofs.Popped.{popped_best, popped_origins}
use Rattle.group_wave.proofs.Pushed.{pushed_waits, pushed_work}
use Rattle.group_wave.proofs.RelaxedTracks.{no_bit}

pub settles_refl : (g : Ground) (w : Wave) → IsWave g w → IsComplete g w → Settles g w w
settles_refl g w wave complete = record { wave = wave; complete = complete; origins = λ v. (λ o. o, λ o. o); best = λ b. b; boxes = refl }

-- ---- what is owed to the tracks of an entry
-- is nothing where it has none
pub none_owed : (g : Ground) (w : Wave) (e : Waiting) → e.tracks ≡ 0 → IsCompleteBut g w (IsOf g w e) → IsComplete g w
none_owed g w e none but = record {
  each = λ v reached b edge inside. elim (but.each v reached b edge inside) [
    | inl went ↦ inl went
    | inr other ↦ elim other [ inl covered ↦ inr (inl covered) | inr of ↦ absurd (no_bit of.holds.track (rw none at of.holds.bit)) ]
  ];
}

-- is owed to those that still have its label
pub left_owed : (g : Ground) (w : Wave) (e f : Waiting) (tracks : ℕ) → AreTracksLeft w (group_at (groups_of g) e.group) e tracks → f.label ≡ e.label → f.group ≡ e.group → f.tracks ≡ tracks → IsCompleteBut g w (IsOf g w e) → IsCompleteBut g w (IsOf g w f)
left_owed g w e f tracks left label group same but = record {
  each = λ v reached b edge inside. elim (but.each v reached b edge inside) [
    | inl went ↦ inl went
    | inr other ↦ elim other [
      | inl covered ↦ inr (inl covered)
      | inr of ↦ inr (inr (record {
        holds = record {
          track = of.holds.track;
          bit = rw same (left.all of.holds.track of.holds.bit (ap (cost_at w) of.holds.wire ∙ sym of.label));
          wire = rw group of.holds.wire;
        };
        label = label ∙ of.label;
      }))
    ]
  ];
}

pub left_live : (g : Ground) (w : Wave) (e f : Waiting) (tracks : ℕ) → AreTracksLeft w (group_at (groups_of g) e.group) e tracks → AreTracks g e → f.label ≡ e.label → f.group ≡ e.group → f.tracks ≡ tracks → (j : ℕ) → bit_at tracks j ≡ 1 → IsLive g w f
left_live g w e f tracks left on label group same j one = record {
  tracks = λ k bit. rw group (on k (left.of k (rw same at bit)));
  labels = λ k bit. rw (group, label) (let l = left.labels k (rw same at bit) in omega (arith, l));
  some = (j, rw same one);
}

-- ---- where what is known of groups changes first
module _ (g : Ground) (ok : IsGround g) (s t : Wave) (e : Waiting) (out : ℕ) (noted : IsNoted s t out) (wave : IsWave g t) where
  spreads : Spreads g s t
  spreads = noted_spreads g s t out noted wave

  pub noted_but : IsCompleteBut g s (IsOf g s e) → IsCompleteBut g t (IsOf g t e)
  noted_but but = complete_lower g s t (λ v. ⊥) (IsOf g s e) (IsOf g t e) spreads.lowers (λ v of same. still_of g s t e v same of) (λ v none. absurd none) but

  pub noted_then : (u : Wave) → Settles g t u → Settles g s u
  noted_then u after = record {
    wave = after.wave;
    complete = after.complete;
    origins = origins_then g s t u spreads.lowers.origins after.origins;
    best = λ was. after.best (spreads.best was);
    boxes = after.boxes ∙ spreads.lowers.boxes;
  }

  -- the entry waits again
  module _ (but : IsCompleteBut g s (IsOf g s e)) (live : IsLive g s e) (u : Wave) (wires : ℕ) (low : IsLow t.boxes (wire_of (group_at (groups_of g) e.group)) wires) (again : WaitsAgain t u e wires) where
    pub again_settles : Settles g s u
    again_settles = pushed_settles g s t e but spreads u again.entry again.pushed (λ j one. rw again.group (live.tracks j (rw again.tracks at one)))
        (λ v of b edge inside. waiting_settled g u v (pushed_waits g t u again.entry again.pushed v
        (record { holds = record { track = of.holds.track; bit = rw again.tracks of.holds.bit; wire = rw again.group of.holds.wire }; label = again.label ∙ of.label })
        (λ c way target walk.
        let bound = group_bound g ok (on_track e.group of.holds.track) (live.tracks of.holds.track of.holds.bit) t wave.boxes wires low c way target (rw of.holds.wire walk) in
        let key = again.low in
        let label = again.label in
        omega (arith, bound, key, label))) b edge inside)

    pub again_work : work_of u ≡ work_of t + 2
    again_work = let p = pushed_work g t u again.entry again.pushed in let whole = ap {B = ℕ} (λ b. cond b 1 2) again.first in omega (arith, p, whole)

  pub noted_same : work_of t ≤ work_of s
  noted_same = spreads.work

-- an entry is taken out and gone on from
pub popped_then : (g : Ground) (r s t u : Wave) (e : Waiting) → Settles g r s → IsPopped s t e → Settles g t u → Settles g r u
popped_then g r s t u e before popped after = record {
  wave = after.wave;
  complete = after.complete;
  origins = origins_then g r s u before.origins (origins_then g s t u (popped_origins g s t e popped) after.origins);
  best = λ was. after.best (popped_best g s t e popped (before.best was));
  boxes = after.boxes ∙ popped.boxes ∙ before.boxes;
}
