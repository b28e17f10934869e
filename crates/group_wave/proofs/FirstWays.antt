-- The first way, which leads over the only output pin of the source, where the wave starts.
use Rattle.std.proofs.Common.{◌≡◌, ℕ, ◌<◌, List, [], ◌∷◌, ◌++◌, length, slice_index, Contains, Some, inl, inr, refl, sym, ap, ◌∙◌, subst, arith}
use Rattle.std.specs.Prelude.{◌↔◌}
use Rattle.routing_problem.specs.node.Kind.TheVariants.{Opin}
use Rattle.routing_problem.specs.Nodes.{kind_of_node}
use Rattle.route_tree.specs.declared.tree.Row.{Row}
use Rattle.route_tree.specs.Paths.{ends_of}
use Rattle.route_tree.specs.Rows.{node_in, pairs_along, pairs_of}
use Rattle.wavefront.specs.Space.{HasEdge, IsInside, IsWanted}
use Rattle.wavefront.specs.Ways.{IsWay, way_cost}
use Rattle.wavefront.specs.kept.Spaces.{node_count}
use Rattle.wavefront.specs.Growth.{IsLeastExtension, IsShut, IsStart, IsTarget}
use Rattle.wavefront.specs.Growth.IsGrown.{alone, grown}
use Rattle.wavefront.proofs.Added.{ends_cases, ends_right, no_source}
use Rattle.wavefront.proofs.Lists.{contains_none, contains_first, contains_later, contains_cases}
use Rattle.wavefront.proofs.WayNodes.{way_cost_more, way_entered}
use Rattle.wave_ground.specs.kept.Grounds.{Ground, IsGround}
use Rattle.group_wave.specs.kept.Growing.{IsAlone, IsGrowth, IsOnlyOutput, Matches}
use Rattle.group_wave.specs.kept.WaveState.{FAR, Wave}
use Rattle.group_wave.specs.kept.Wave.{IsBest, IsComplete, IsOpen, IsOrigin, IsWave}
use Rattle.group_wave.specs.kept.Steps.{IsLeastKey, IsStarted, IsTaken, IsTraced, MoreOrigins, NoOrigins, SameOrigins}
use Rattle.group_wave.proofs.Added.{matches_same}
use Rattle.group_wave.proofs.Outputs.{output_no_sink, source_leads}
use Rattle.group_wave.proofs.Shortcut.{no_way}

-- ---- the pin
pub one_item : (xs : List ℕ) → length xs ≡ 1 → xs ≡ slice_index xs 0 ∷ []
one_item [] e = absurd (omega (arith, e))
one_item (x ∷ []) e = refl
one_item (x ∷ y ∷ xs) e = absurd (omega (arith, e))

one_is : (x v : ℕ) → Contains (x ∷ []) v → v ≡ x
one_is x v h = elim (contains_cases x v [] h) [ inl e ↦ e | inr none ↦ absurd (contains_none v none) ]

pub only_output : (g : Ground) (xs : List ℕ) (pin : ℕ) → xs ≡ pin ∷ [] → ((to : ℕ) → Contains xs to ↔ HasEdge g.space g.space.net.source to) → IsInside g.space pin → IsOnlyOutput g pin
only_output g xs pin one leads inside = record {
  edge = (leads pin).0 (rw one (contains_first pin []));
  only = λ v edge. one_is pin v (rw one at ((leads v).1 edge));
  inside = inside;
}

module _ (g : Ground) (ok : IsGround g) (pin : ℕ) (sole : IsOnlyOutput g pin) where
  pub only_kind : kind_of_node g.space.device pin ≡ Some Opin
  only_kind = source_leads g.space.device g.space.net.source pin ok.source sole.edge

  pub only_in : pin < node_count g.space
  only_in = ok.space.range g.space.net.source pin sole.edge

  no_sink : IsWanted g.space pin → ⊥
  no_sink wanted = output_no_sink g.space.device pin only_kind (ok.space.are_sinks pin wanted)

  start_is : (c : ℕ) → IsStart g.space [] c → c ≡ g.space.net.source
  start_is c st = elim st.covered [ inl e ↦ e | inr none ↦ absurd (contains_none c none) ]

  -- a way from the source leads over the pin
  over_pin : (c d : ℕ) (other : List ℕ) → c ≡ g.space.net.source → IsTarget g.space [] d → IsWay g.space c other d → (rest : List ℕ) × IsWay g.space pin rest d × (other ≡ pin ∷ rest)
  over_pin c d [] e target walk = absurd (target.apart (inl (sym walk ∙ e)))
  over_pin c d (v ∷ rest) e target (edge, _, walk) =
      let same : v ≡ pin = sole.only v (subst (λ a. HasEdge g.space a v) e edge) in
      (rest, subst (λ a. IsWay g.space a rest d) same walk, ap (λ a. a ∷ rest) same)

  -- ---- the wave starts at the pin alone
  module _ (w : Wave) (start : IsOrigin w pin) (lone : (v : ℕ) → IsOrigin w v → v ≡ pin) where
    first_open : (b : ℕ) → IsTarget g.space [] b → IsOpen g w b
    first_open b target = (target.sink, λ o. no_sink (subst (IsWanted g.space) (lone b o) target.sink))

    pub first_shut : IsLeastKey g w FAR → IsShut g.space []
    first_shut least a b way st target walk =
        let (rest, from, is) = over_pin a b way (start_is a st) target walk in
        no_way g w ok least pin b rest start (first_open b target) from

    module _ (sink : ℕ) (way : List ℕ) (traced : IsTraced g w pin way sink) where
      first_walk : IsWay g.space g.space.net.source (pin ∷ way) sink
      first_walk = (sole.edge, sole.inside, traced.walk)

      no_start : (v : ℕ) → Contains (pin ∷ way) v → v ≡ g.space.net.source → ⊥
      no_start v h e = no_source g.space v ok.space (way_entered g.space g.space.net.source sink v (pin ∷ way) first_walk h) e

      first_least : IsTaken g w sink → IsLeastExtension g.space [] g.space.net.source (pin ∷ way) sink
      first_least taken = record {
        extension = record {
          start = record { covered = inl refl; alone = λ _. refl };
          walk = first_walk;
          apart = λ v h cover. elim cover [ inl e ↦ no_start v h e | inr none ↦ contains_none v none ];
          target = record {
            sink = taken.«open».0;
            apart = λ cover. elim cover [ inl e ↦ ok.space.apart (rw e at taken.«open».0) | inr none ↦ contains_none sink none ];
          };
        };
        distinct = (λ h. traced.apart pin h start, traced.distinct);
        least = λ c d other more.
            let (rest, from, is) = over_pin c d other (start_is c more.start) more.target more.walk in
            let low = taken.least pin d rest start (first_open d more.target) from in
            let paid = traced.paid in
            let cost = way_cost_more g.space pin way in
            let longer : way_cost g.space other ≡ way_cost g.space (pin ∷ rest) = ap (way_cost g.space) is in
            let sum = way_cost_more g.space pin rest in
            omega (arith, low, paid, cost, longer, sum);
      }

      first_matches : (t : Wave) → IsStarted g w t way → Matches g ([] ++ pairs_along g.space.net.source (pin ∷ way)) t
      first_matches t started v = (
        λ o.
            let h : Contains (pin ∷ way) v = elim ((started.origins v).0 o) [
              | inl old ↦ rw (lone v old) (contains_first pin way)
              | inr new ↦ contains_later pin v way new
            ] in
            record { covered = inr (ends_right [] g.space.net.source (pin ∷ way) v h); alone = λ e. absurd (no_start v h e) },
        λ st. elim st.covered [
          | inl e ↦ absurd (contains_none pin (subst (λ tree. Contains (ends_of tree) pin) (st.alone e) (ends_right [] g.space.net.source (pin ∷ way) pin (contains_first pin way))))
          | inr h ↦ elim (ends_cases [] g.space.net.source (pin ∷ way) v h) [
            | inl none ↦ absurd (contains_none v none)
            | inr new ↦ (started.origins v).1 (elim (contains_cases pin v way new) [ inl e ↦ inl (rw e start) | inr later ↦ inr later ])
          ]
        ],
      )

-- ---- the tree
alone_pairs : (node : ℕ) → pairs_of (record { node = node; parent = 0 } ∷ []) ≡ []
unfolding pairs_of
alone_pairs node = refl

first_root : (g : Ground) (rows more grew : List Row) → IsAlone g rows → grew ≡ rows ++ more → node_in grew 0 ≡ g.space.net.source
first_root g rows more grew one e = rw (e, one) refl

first_pairs : (g : Ground) (rows grew : List Row) (nodes all : List ℕ) → IsAlone g rows → pairs_of grew ≡ pairs_of rows ++ pairs_along (node_in rows 0) nodes → nodes ≡ all → pairs_of grew ≡ [] ++ pairs_along g.space.net.source all
first_pairs g rows grew nodes all one e same = e ∙ ap (λ rs. pairs_of rs ++ pairs_along (node_in rs 0) nodes) one ∙ ap (λ ps. ps ++ pairs_along g.space.net.source nodes) (alone_pairs g.space.net.source) ∙ ap (pairs_along g.space.net.source) same

-- the wave w, from which a sink was taken, starts at the way's nodes too in t, and is u when the
-- tree has the way
pub first_growth : (g : Ground) (w t u : Wave) (rows grew more : List Row) (pin sink : ℕ) (way nodes : List ℕ) → IsGround g → ((v : ℕ) → IsOrigin w v → IsOnlyOutput g v) → IsTaken g w sink → IsTraced g w pin way sink → IsStarted g w t way
    → IsAlone g rows → grew ≡ rows ++ more → pairs_of grew ≡ pairs_of rows ++ pairs_along (node_in rows 0) nodes → nodes ≡ pin ∷ way → IsWave g u → IsComplete g u → IsBest g u → SameOrigins t u → IsGrowth g grew u
first_growth g w t u rows grew more pin sink way nodes ok each taken traced started one added pairs is wave complete best same =
    let sole = each pin traced.start in
    let lone : (v : ℕ) → IsOrigin w v → v ≡ pin = λ v o. sole.only v (each v o).edge in
    let moved = first_pairs g rows grew nodes (pin ∷ way) one pairs is in
    record {
      root = first_root g rows more grew one added;
      wave = wave;
      complete = complete;
      best = best;
      grown = rw moved (grown [] g.space.net.source (pin ∷ way) sink alone (first_least g ok pin sole w traced.start lone sink way traced taken));
      origins = rw moved (matches_same g ([] ++ pairs_along g.space.net.source (pin ∷ way)) t u (first_matches g ok pin sole w traced.start lone sink way traced t started) same);
    }

-- where the wave starts at the pin, and nowhere else
pub only_origins : (s t u : Wave) (pin : ℕ) → NoOrigins s → MoreOrigins s t pin → SameOrigins t u → (v : ℕ) → IsOrigin u v → v ≡ pin
only_origins s t u pin none more same v o = elim ((more v).0 ((same v).0 o)) [ inl old ↦ absurd (none v old) | inr e ↦ e ]
