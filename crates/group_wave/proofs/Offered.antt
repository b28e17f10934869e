-- What is offered to each track of a group.
use Rattle.std.proofs.Common.{◌≡◌, ℕ, ◌+◌, ◌*◌, ◌-◌, ◌<◌, ◌≤◌, length, inl, inr, refl, sym, ap, ◌∙◌, subst, arith}
use Rattle.std.specs.Int.{bit_at}
use Rattle.std.proofs.lemmas.Bool.{cases_eq}
use Rattle.std.proofs.lemmas.Nat.Bits.{bit_at-zero}
use Rattle.track_groups.specs.declared.group.Group.{Group}
use Rattle.track_groups.specs.Groups.{IsOn, group_at, on_track, wire_on}
use Rattle.wavefront.specs.Space.{HasEdge, IsInside}
use Rattle.wavefront.specs.kept.Bounds.{left_over}
use Rattle.wavefront.proofs.WaysLeft.{wire_paid}
use Rattle.wave_ground.specs.kept.Boxes.{IsLow, wire_of}
use Rattle.wave_queue.specs.kept.Bits.{PutsBit}
use Rattle.wave_ground.specs.kept.Grounds.{Ground, IsGround, groups_of}
use Rattle.wave_queue.specs.kept.Queues.{Waiting}
use Rattle.group_wave.specs.kept.WaveState.{FAR, Wave}
use Rattle.group_wave.specs.kept.Wave.{AreTracks, IsBound, IsOf, IsWave}
use Rattle.group_wave.specs.kept.Steps.{IsOffer, IsNoted, IsStep, IsTarget, Relaxes, RelaxesSome, WaitsFresh, fresh_entry}
use Rattle.group_wave.proofs.Entered.{noted_spreads}
use Rattle.group_wave.proofs.Lower.{lowers_then, still_of, went_lower}
use Rattle.group_wave.proofs.Noted.{noted_lowers, noted_sinks, noted_wave, noted_work}
use Rattle.group_wave.proofs.RelaxedTracks.{relaxed_put}
use Rattle.group_wave.proofs.Sinks.{sinks_then}
use Rattle.group_wave.proofs.Grouped.{group_bound, is_wire_here, wire_within}

-- an entry of one track
pub one_track : (g : Ground) (e : Waiting) (track : ℕ) → PutsBit 0 e.tracks track → IsOn (groups_of g) (on_track e.group track) → AreTracks g e
one_track g e track put on j one = elim (cases_eq j track) [
  | inl same ↦ rw same on
  | inr other ↦ absurd (let zero_bit = bit_at-zero j in let same = put.others j other in omega (arith, zero_bit, same, one))
]

module _ (g : Ground) (ok : IsGround g) (old s : Wave) (label least first step group tracks left fresh : ℕ) (is : Group) (at : is ≡ group_at (groups_of g) group)
    (offer : IsOffer g old label first step group tracks) (some : RelaxesSome g old s label least group tracks left fresh) (track : ℕ) (bit : bit_at left track ≡ 1) where
  abbrev wire : ℕ
  wire = is.base + track * is.stride

  pub offered_target : IsTarget g group track wire
  offered_target = record { on = offer.on track (some.of track bit); is = ap (λ (x : Group). x.base + track * x.stride) (sym at) }

  pub offered_step : label < FAR → IsStep g s label wire (first + track * step)
  offered_step near =
      let was = some.of track bit in
      let on = offer.on track was in
      let same = offered_target.is in
      record {
        edge = subst (HasEdge g.space (first + track * step)) same (offer.edge track was);
        inside = subst (IsInside g.space) same (offer.inside track was);
        from = let from = offer.from track was in let down = some.lowers.down (first + track * step) in omega (arith, from, down);
        near = near;
        is = rw same at (is_wire_here g ok (on_track group track) on);
        within = rw same at (wire_within g ok (on_track group track) on);
      }

-- what is offered is left out, since the least that it costs to enter a wire is too much
pub offer_dropped : (g : Ground) (ok : IsGround g) (s t : Wave) (label first step group tracks out : ℕ) → IsWave g s → IsOffer g s label first step group tracks → IsNoted s t out → t.known ≡ s.known → out ≤ label + 320 → Relaxes g s t label group tracks
offer_dropped g ok s t label first step group tracks out wave offer noted known dear = record {
  spreads = noted_spreads g s t out noted (noted_wave g s t out noted wave (ap length known ∙ wave.sized) (rw (noted.boxes, known) wave.known));
  went = λ j one.
      let limit = noted.limit in
      let paid = wire_paid g.space (wire_on (groups_of g) (on_track group j)) (is_wire_here g ok (on_track group j) (offer.on j one)) in
      inr (omega (arith, limit, dear, paid));
}

-- tracks that are yet to wait: no way over them costs less than what they and the ways on cost at
-- least
pub fresh_bound : (g : Ground) (ok : IsGround g) (old s : Wave) (label least group tracks left fresh : ℕ) (is : Group) → is ≡ group_at (groups_of g) group → RelaxesSome g old s label least group tracks left fresh
    → (wires key : ℕ) → IsLow old.boxes (wire_of is) wires → key ≤ least + left_over wires → (v : ℕ) → IsOf g s (fresh_entry least group fresh) v → IsBound g s v (key - least)
fresh_bound g ok old s label least group tracks left fresh is at some wires key low up v of b way target walk =
    let on = some.on of.holds.track of.holds.bit in
    let here : IsLow s.boxes (wire_of (group_at (groups_of g) group)) wires = rw (some.lowers.boxes, sym at) low in
    let bound = subst (λ x. IsBound g s x (left_over wires)) of.holds.wire (group_bound g ok (on_track group of.holds.track) on s some.wave.boxes wires here) b way target walk in
    omega (arith, bound, up)

-- what is known of groups changes before they wait
some_noted : (g : Ground) (old s t : Wave) (label least group tracks left fresh limit : ℕ) → RelaxesSome g old s label least group tracks left fresh → IsNoted s t limit → IsWave g t → RelaxesSome g old t label least group tracks left fresh
some_noted g old s t label least group tracks left fresh limit some noted wave = record {
  wave = wave;
  lowers = lowers_then g old s t _ _ _ some.lowers (noted_lowers g s t limit noted) (λ v of same. still_of g s t (fresh_entry least group fresh) v same of) (λ v none. absurd none);
  on = some.on;
  of = some.of;
  went = λ j one gone. went_lower g s t _ label (wire_on (groups_of g) (on_track group j)) (noted_lowers g s t limit noted) (some.went j one gone);
  work = let a = some.work in let b = noted_work g s t limit noted in omega (arith, a, b);
  sinks = sinks_then g old s t some.sinks (noted_sinks g s t limit noted);
}

-- those that are yet to wait are put in
pub fresh_put : (g : Ground) (ok : IsGround g) (old s t : Wave) (label least group tracks fresh : ℕ) → RelaxesSome g old s label least group tracks 0 fresh → 0 < fresh → WaitsFresh g s t (fresh_entry least group fresh) → Relaxes g old t label group tracks
fresh_put g ok old s t label least group tracks fresh some more put =
    let now = some_noted g old s put.middle label least group tracks 0 fresh FAR some put.noted put.wave in
    let low : IsLow old.boxes (wire_of (group_at (groups_of g) group)) put.wires = rw (sym now.lowers.boxes) put.low in
    let key = put.key in
    relaxed_put g old put.middle t label least group tracks fresh put.entry now more put.pushed put.label put.group put.tracks put.first
    (rw put.label (fresh_bound g ok old put.middle label least group tracks 0 fresh (group_at (groups_of g) group) refl now put.wires put.entry.key low (omega (arith, key))))
