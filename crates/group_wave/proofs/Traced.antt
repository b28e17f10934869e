-- The way back from a sink.
use Rattle.std.proofs.Common.{◌≡◌, ℕ, ◌+◌, ◌<◌, ◌≤◌, List, [], ◌∷◌, ◌++◌, reverse, Contains, length, ◌⊎◌, inl, inr, refl, sym, ap, ◌∙◌, arith}
use Rattle.std.proofs.lemmas.Bool.{cases_lt, false≢true}
use Rattle.std.proofs.lemmas.List.{get_or_past, reverse-append}
use Rattle.group_wave.specs.kept.WaveState.{FAR, NodeLabel, Wave}
use Rattle.wavefront.specs.Space.{HasEdge, entry_cost}
use Rattle.wavefront.specs.Ways.{AreDistinct, IsWay, way_cost}
use Rattle.wave_ground.specs.kept.Grounds.{Ground, IsGround}
use Rattle.group_wave.specs.kept.Wave.{IsWave, IsOrigin, IsEntered, cost_at, parent_of, unreached}
use Rattle.group_wave.specs.kept.Steps.{HasReached, IsTaken, IsTraced, IsWayBack}
use Rattle.wavefront.proofs.Lists.{contains_none, contains_cases}
use Rattle.wavefront.proofs.WayNodes.{way_cost_more, way_cost_none}

-- the way has come back from the sink as far as v
pub record IsTracing (g : Ground) (w : Wave) (v : ℕ) (way : List ℕ) (sink : ℕ) : Type 0 where
  pub walk : IsWay g.space v way sink
  pub apart : (x : ℕ) → Contains way x → IsOrigin w x → ⊥
  pub distinct : AreDistinct way
  pub above : (x : ℕ) → Contains way x → (x ≡ sink) ⊎ (cost_at w v < cost_at w x)
  pub paid : cost_at w v + way_cost g.space way ≤ cost_at w sink
  pub reached : cost_at w v < FAR
  pub leads : (b : ℕ) × HasEdge g.space v b

-- what is reached has a row
pub reached_in : (w : Wave) (v : ℕ) → cost_at w v < FAR → v < length w.labels
reached_in w v near = elim (cases_lt v (length w.labels)) [
  | inl within ↦ within
  | inr past ↦ absurd (let none = ap (λ (l : NodeLabel). l.cost) (get_or_past w.labels v unreached past) in omega (arith, near, none))
]

-- a sink that is taken is reached
pub taken_reached : (g : Ground) (w : Wave) (sink : ℕ) → IsGround g → IsWave g w → IsTaken g w sink → HasReached g w sink
taken_reached g w sink ok wave taken = record { ground = ok; wave = wave; «open» = taken.«open»; reached = taken.reached }

-- so the way back from it is the one by which the wave came to it
pub taken_traced : (g : Ground) (w : Wave) (a : ℕ) (way : List ℕ) (sink : ℕ) → IsGround g → IsWave g w → IsTaken g w sink → IsWayBack w a way sink → IsTraced g w a way sink
taken_traced g w a way sink ok wave taken back = back.on g (taken_reached g w sink ok wave taken)

module _ (g : Ground) (w : Wave) where
  entered_at : (v : ℕ) → IsWave g w → cost_at w v < FAR → (IsOrigin w v → ⊥) → IsEntered g w v
  entered_at v wave near apart = elim (wave.entered v near) [ inl o ↦ absurd (apart o) | inr e ↦ e ]

  traced_first : (sink : ℕ) → HasReached g w sink → IsTracing g w (parent_of w sink) (sink ∷ []) sink
  traced_first sink has =
      let apart = has.«open».1 in
      let e = entered_at sink has.wave has.reached apart in
      record {
        walk = (e.edge, e.inside, refl);
        apart = λ x h o. elim (contains_cases sink x [] h) [ inl f ↦ apart (rw f at o) | inr none ↦ contains_none x none ];
        distinct = (contains_none sink, tt);
        above = λ x h. elim (contains_cases sink x [] h) [ inl f ↦ inl f | inr none ↦ absurd (contains_none x none) ];
        paid = let more = way_cost_more g.space sink [] in let none = way_cost_none g.space in let paid = e.paid in omega (arith, more, none, paid);
        reached = e.reached;
        leads = (sink, e.edge);
      }

  traced_more : (v : ℕ) (way : List ℕ) (sink : ℕ) → HasReached g w sink → IsTracing g w v way sink → (IsOrigin w v → ⊥) → IsTracing g w (parent_of w v) (v ∷ way) sink × (cost_at w (parent_of w v) < cost_at w v)
  traced_more v way sink has t apart =
      let ok = has.ground in
      let wanted = has.«open».0 in
      let e = entered_at v has.wave t.reached apart in
      let costs : 0 < entry_cost g.space v = ok.space.costly (parent_of w v) v t.leads.0 e.edge t.leads.1 in
      let paid = e.paid in
      let less : cost_at w (parent_of w v) < cost_at w v = omega (arith, costs, paid) in
      let on : HasEdge g.space v t.leads.0 = t.leads.1 in (
        record {
          walk = (e.edge, e.inside, t.walk);
          apart = λ x h o. elim (contains_cases v x way h) [ inl f ↦ apart (rw f at o) | inr later ↦ t.apart x later o ];
          distinct = (λ h. elim (t.above v h) [ inl f ↦ false≢true (sym (ok.space.ends v t.leads.0 on) ∙ ok.space.are_sinks v (rw (← f) at wanted)) | inr low ↦ omega (arith, low) ], t.distinct);
          above = λ x h. elim (contains_cases v x way h) [
            | inl f ↦ inr (rw f less)
            | inr later ↦ elim (t.above x later) [ inl f ↦ inl f | inr low ↦ inr (omega (arith, low, less)) ]
          ];
          paid = let more = way_cost_more g.space v way in let rest = t.paid in omega (arith, more, paid, rest);
          reached = e.reached;
          leads = (v, e.edge);
        },
        less,
      )

  pub traced : (v : ℕ) (way : List ℕ) (sink : ℕ) → IsTracing g w v way sink → IsOrigin w v → IsTraced g w v way sink
  traced v way sink t o = record {
    start = o;
    walk = t.walk;
    apart = t.apart;
    distinct = t.distinct;
    paid = let paid = t.paid in omega (arith, paid);
  }

  -- what is noted last comes first
  noted : (v : ℕ) (old new : List ℕ) → new ≡ old ++ v ∷ [] → reverse new ≡ v ∷ reverse old
  noted v old new e = ap reverse e ∙ reverse-append old _

  pub stepped_first : (sink u : ℕ) (old new : List ℕ) → HasReached g w sink → old ≡ [] → new ≡ old ++ sink ∷ [] → u ≡ parent_of w sink → IsTracing g w u (reverse new) sink
  stepped_first sink u old new has none pushed at =
      let e : reverse new ≡ sink ∷ [] = noted sink old new pushed ∙ rw none refl in
      rw (e, at) (traced_first sink has)

  pub stepped_more : (v u sink : ℕ) (old new : List ℕ) → HasReached g w sink → IsTracing g w v (reverse old) sink → (IsOrigin w v → ⊥) → new ≡ old ++ v ∷ [] → u ≡ parent_of w v → IsTracing g w u (reverse new) sink × (cost_at w u < cost_at w v)
  stepped_more v u sink old new has t apart pushed at =
      let e : reverse new ≡ v ∷ reverse old = noted v old new pushed in
      rw (e, at) (traced_more v (reverse old) sink has t apart)
