-- The wave starts at the nodes of a way, from the last to the first.
use Rattle.std.proofs.Common.{◌≡◌, ℕ, zero, suc, ◌+◌, ◌<◌, ◌≤◌, ◌⊎◌, true, List, [], ◌∷◌, length, get_or, Some, inl, inr, sym, ◌∙◌, subst, arith}
use Rattle.std.specs.Prelude.{Contains, drop}
use Rattle.std.proofs.lemmas.Bool.{false≢true}
use Rattle.std.proofs.lemmas.List.{drop_all, drop_more}
use Rattle.routing_problem.specs.node.Kind.TheVariants.{Ipin}
use Rattle.routing_problem.specs.Nodes.{kind_of_node}
use Rattle.routing_problem.proofs.EdgeEnds.{enters_no_source}
use Rattle.routing_problem.proofs.InputPins.{pin_leads_on}
use Rattle.routing_problem.specs.Problems.{is_sink}
use Rattle.wavefront.specs.Space.{HasEdge}
use Rattle.wavefront.specs.Ways.{IsWay}
use Rattle.wavefront.specs.kept.Spaces.{LeadsOnlyTo, node_count}
use Rattle.wavefront.proofs.Lists.{contains_none, contains_first, contains_later, contains_cases}
use Rattle.wavefront.proofs.Spaces.{pin_leads}
use Rattle.wave_ground.specs.kept.Grounds.{Ground, IsGround}
use Rattle.group_wave.specs.kept.WaveState.{Wave}
use Rattle.group_wave.specs.kept.Wave.{IsComplete, IsDead, IsOrigin, IsWave}
use Rattle.group_wave.specs.kept.Steps.{IsStarted, LeadsToSink}
use Rattle.group_wave.specs.kept.Starts.{IsEnd, MayStart, StartsAt}
use Rattle.group_wave.proofs.Outputs.{entered_kind}

module _ (g : Ground) (ok : IsGround g) where
  -- a node of a way is entered, and is its end or goes on to a later node
  pub record IsOnWay (way : List ℕ) (sink i : ℕ) : Type 0 where
    pub before : ℕ
    pub into : HasEdge g.space before (get_or way i 0)
    pub on : (get_or way i 0 ≡ sink) ⊎ ((next : ℕ) × HasEdge g.space (get_or way i 0) next × Contains (drop (suc i) way) next)

  on_way : (a sink : ℕ) (way : List ℕ) (i : ℕ) → IsWay g.space a way sink → i < length way → IsOnWay way sink i
  on_way a sink [] i walk lt = absurd (omega (arith, lt))
  on_way a sink (v ∷ []) zero walk lt = record { before = a; into = walk.0; on = inl walk.2 }
  on_way a sink (v ∷ x ∷ xs) zero walk lt = record { before = a; into = walk.0; on = inr (x, walk.2.0, contains_first x xs) }
  on_way a sink (v ∷ vs) (suc i) walk lt =
      let r = on_way v sink vs i walk.2 (omega (arith, lt)) in
      record { before = r.before; into = r.into; on = r.on }

  -- from a sink no edge leads
  sink_end : (w : Wave) (v : ℕ) → is_sink g.space.device v ≡ true → IsEnd g w v
  sink_end w v is b edge = absurd (false≢true (sym (ok.space.ends v b edge) ∙ is))

  -- an input pin leads only to a sink that was taken
  pin_end : (w : Wave) (v next : ℕ) → kind_of_node g.space.device v ≡ Some Ipin → HasEdge g.space v next → IsOrigin w next → IsEnd g w v
  pin_end w v next kind edge taken b to =
      let found = pin_leads_on g.space.device ok.space.fabric v kind in
      let leads : LeadsOnlyTo g.space v found.0 = pin_leads g.space v found.0 found.1 kind in
      let same : b ≡ next = leads.only b to ∙ sym (leads.only next edge) in
      dead b (subst (IsOrigin w) (sym same) taken) (λ x on. leads.last x (subst (λ y. HasEdge g.space y x) (leads.only b to) on))
    where
      dead : (b : ℕ) → IsOrigin w b → ((x : ℕ) → HasEdge g.space b x → ⊥) → IsDead g w b
      dead b o last c [] target walk = target.1 (subst (IsOrigin w) walk o)
      dead b o last c (x ∷ way) target walk = last x walk.0

  pub way_may_start : (w : Wave) (way : List ℕ) (i : ℕ) → LeadsToSink g way → i < length way → ((v : ℕ) → Contains (drop (i + 1) way) v → IsOrigin w v) → MayStart g w (get_or way i 0)
  way_may_start w way i leads lt later =
      let here = on_way leads.from leads.sink way i leads.walk lt in
      let v = get_or way i 0 in
      let at : i + 1 ≡ suc i = omega arith in
      elim (entered_kind g.space.device here.before v here.into (enters_no_source g.space.device here.before v here.into)) [
        | inl wire ↦ inl wire
        | inr more ↦ elim more [
          | inl out ↦ inr (inl out)
          | inr rest ↦ elim rest [
            | inl pin ↦ elim here.on [
              | inl last ↦ inr (inr (sink_end w v (rw last (ok.space.are_sinks leads.sink leads.wanted))))
              | inr next ↦ inr (inr (pin_end w v next.0 pin next.1 (later next.0 (rw at next.2))))
            ]
            | inr sink ↦ inr (inr (sink_end w v sink))
          ]
        ]
      ]

  pub way_node : (way : List ℕ) (i : ℕ) → LeadsToSink g way → i < length way → get_or way i 0 < node_count g.space
  way_node way i leads lt = let here = on_way leads.from leads.sink way i leads.walk lt in ok.space.range here.before _ here.into

  -- ---- one node after the other
  pub started_none : (w : Wave) (way : List ℕ) (i : ℕ) → length way ≤ i → IsWave g w → IsComplete g w → IsStarted g w w (drop i way)
  started_none w way i all wave complete = record {
    wave = wave;
    complete = complete;
    origins = λ v. (λ o. inl o, λ h. elim h [ inl o ↦ o | inr none ↦ absurd (contains_none v (rw (drop_all i way all) at none)) ]);
  }

  pub started_more : (w s t : Wave) (way : List ℕ) (i : ℕ) → i < length way → IsStarted g w s (drop (i + 1) way) → StartsAt g s t (get_or way i 0) → IsStarted g w t (drop i way)
  started_more w s t way i lt before step = record {
    wave = step.wave;
    complete = step.complete;
    origins = λ v. (
      λ o. elim ((step.origins v).0 o) [
        | inl old ↦ elim ((before.origins v).0 old) [ inl first ↦ inl first | inr h ↦ inr (rw (drop_more way i 0 lt) (contains_later (get_or way i 0) v (drop (i + 1) way) h)) ]
        | inr e ↦ inr (rw (drop_more way i 0 lt, e) (contains_first (get_or way i 0) (drop (i + 1) way)))
      ],
      λ h. elim h [
        | inl first ↦ (step.origins v).1 (inl ((before.origins v).1 (inl first)))
        | inr has ↦ elim (contains_cases (get_or way i 0) v (drop (i + 1) way) (rw (drop_more way i 0 lt) at has)) [
          | inl e ↦ (step.origins v).1 (inr e)
          | inr later ↦ (step.origins v).1 (inl ((before.origins v).1 (inr later)))
        ]
      ],
    );
  }
