-- What offering the tracks of a group a way does, one after the other.
use Rattle.std.proofs.Common.{◌≡◌, ℕ, ◌-◌, ◌<◌, Bool, true, false, cond, inl, inr, refl, sym, ap, ◌∙◌, arith}
use Rattle.std.proofs.lemmas.Bool.{cases_eq, false≢true}
use Rattle.std.specs.Int.{bit_at}
use Rattle.std.proofs.lemmas.Nat.Bits.{bit_at-zero}
use Rattle.track_groups.specs.Groups.{IsOn, on_track, wire_on}
use Rattle.wave_queue.specs.kept.Bits.{PutsBit, TakesBit}
use Rattle.wave_ground.specs.kept.Grounds.{Ground, groups_of}
use Rattle.wave_queue.specs.kept.Queues.{Waiting}
use Rattle.group_wave.specs.kept.WaveState.{Wave}
use Rattle.group_wave.specs.kept.Wave.{Holds, IsBound, IsOf, WentOn, cost_at}
use Rattle.group_wave.specs.kept.Steps.{IsPushed, Relaxes, RelaxesSome, RelaxesTrack, fresh_entry}
use Rattle.group_wave.proofs.Lower.{lowers_then, origins_then, still_of, went_lower}
use Rattle.group_wave.proofs.Pushed.{new_wait, pushed_lowers, pushed_label, pushed_wave, pushed_work}
use Rattle.group_wave.proofs.Sinks.{sinks_best, sinks_then}

pub no_bit : (j : ℕ) → bit_at 0 j ≡ 1 → ⊥
no_bit j e = let none = bit_at-zero j in omega (arith, e, none)

module _ (g : Ground) (old s t : Wave) (label least group tracks left rest fresh track wire : ℕ) (taken : TakesBit left rest track)
    (on : IsOn (groups_of g) (on_track group track)) (at : wire_on (groups_of g) (on_track group track) ≡ wire) (some : RelaxesSome g old s label least group tracks left fresh) where
  still_left : (j : ℕ) → bit_at rest j ≡ 1 → bit_at left j ≡ 1
  still_left j one = elim (cases_eq j track) [
    | inl e ↦ absurd (let gone = taken.gone in let same = ap (bit_at rest) e in omega (arith, gone, one, same))
    | inr ne ↦ sym (taken.others j ne) ∙ one
  ]

  went_more : (is_fresh : Bool) → RelaxesTrack g s t label least wire is_fresh → (j : ℕ) → bit_at tracks j ≡ 1 → (bit_at rest j ≡ 1 → ⊥) → WentOn g t label (wire_on (groups_of g) (on_track group j))
  went_more is_fresh step j one gone = elim (cases_eq j track) [
    | inl e ↦ rw (e, at) step.went
    | inr ne ↦ went_lower g s t _ label (wire_on (groups_of g) (on_track group j)) step.lowers (some.went j one (λ h. gone (taken.others j ne ∙ h)))
  ]

  pub relaxed_more : RelaxesTrack g s t label least wire false → RelaxesSome g old t label least group tracks rest fresh
  relaxed_more step = record {
    wave = step.wave;
    lowers = lowers_then g old s t _ _ _ some.lowers step.lowers (λ v of same. still_of g s t (fresh_entry least group fresh) v same of) (λ v none. absurd (false≢true none.0));
    on = some.on;
    of = λ j one. some.of j (still_left j one);
    went = went_more false step;
    work = let a = some.work in let b = step.work in omega (arith, a, b);
    sinks = sinks_then g old s t some.sinks step.sinks;
  }

  module _ (more : ℕ) (put : PutsBit fresh more track) where
    holds_more : (v : ℕ) → Holds g (fresh_entry least group fresh) v → Holds g (fresh_entry least group more) v
    holds_more v holds = record {
      track = holds.track;
      bit = elim (cases_eq holds.track track) [ inl e ↦ rw e put.here | inr ne ↦ put.others holds.track ne ∙ holds.bit ];
      wire = holds.wire;
    }

    pub relaxed_fresh_more : RelaxesTrack g s t label least wire true → RelaxesSome g old t label least group tracks rest more
    relaxed_fresh_more step = record {
      wave = step.wave;
      lowers = lowers_then g old s t _ _ _ some.lowers step.lowers
          (λ v of same. record { holds = holds_more v of.holds; label = of.label ∙ sym same })
          (λ v new. record {
            holds = record { track = track; bit = put.here; wire = at ∙ sym new.1 };
            label = sym (ap (cost_at t) new.1 ∙ step.at refl);
          });
      on = λ j one. elim (cases_eq j track) [ inl e ↦ rw e on | inr ne ↦ some.on j (sym (put.others j ne) ∙ one) ];
      of = λ j one. some.of j (still_left j one);
      went = went_more true step;
      work = let a = some.work in let b = step.work in omega (arith, a, b);
      sinks = sinks_then g old s t some.sinks step.sinks;
    }

-- no track is left, and none is yet to wait
pub relaxed_all : (g : Ground) (old s : Wave) (label least group tracks : ℕ) → RelaxesSome g old s label least group tracks 0 0 → Relaxes g old s label group tracks
relaxed_all g old s label least group tracks some = record {
  spreads = record {
    wave = some.wave;
    lowers =
        let low = some.lowers in
        record {
          down = low.down;
          wait = λ v. elim (low.wait v) [ inl same ↦ inl same | inr later ↦ elim later [ inl settled ↦ inr (inl settled) | inr none ↦ absurd (no_bit none.holds.track none.holds.bit) ] ];
          origins = low.origins;
          kept = low.kept;
          limit = low.limit;
          boxes = low.boxes;
        };
    work = let w = some.work in omega (arith, w);
    best = sinks_best g old s some.lowers.origins some.sinks;
  };
  went = λ j one. some.went j one (λ none. no_bit j none);
}

-- those that are yet to wait are put in
pub relaxed_put : (g : Ground) (old s t : Wave) (label least group tracks fresh : ℕ) (e : Waiting) → RelaxesSome g old s label least group tracks 0 fresh → 0 < fresh → IsPushed s t e → e.label ≡ least → e.group ≡ group → e.tracks ≡ fresh → e.begun ≡ false
    → ((v : ℕ) → IsOf g s (fresh_entry least group fresh) v → IsBound g s v (e.key - e.label)) → Relaxes g old t label group tracks
relaxed_put g old s t label least group tracks fresh e some more push l h f b low = record {
  spreads = record {
    wave = pushed_wave g s t e push some.wave (λ j one. rw h (some.on j (rw f at one)));
    lowers = new_wait g s t e push old _ some.lowers
        (λ v of. record { holds = record { track = of.holds.track; bit = rw f of.holds.bit; wire = rw h of.holds.wire }; label = l ∙ of.label })
        low;
    work = let w = some.work in let p = pushed_work g s t e push in let weight = ap {B = ℕ} (λ x. cond x 1 2) b in omega (arith, w, p, weight, more);
    best = sinks_best g old t (origins_then g old s t some.lowers.origins (pushed_lowers g s t e push).origins)
        (sinks_then g old s t some.sinks (record { best = push.best; labels = λ v wanted. pushed_label g s t e push v }));
  };
  went = λ j one. went_lower g s t _ label (wire_on (groups_of g) (on_track group j)) (pushed_lowers g s t e push) (some.went j one (λ none. no_bit j none));
}
