-- A least way that joins a grown tree.
use Rattle.std.proofs.Common.{◌≡◌, ℕ, List, ◌++◌, Contains, inl, inr, arith}
use Rattle.route_tree.specs.declared.tree.Row.{Row}
use Rattle.route_tree.specs.Paths.{Pair}
use Rattle.route_tree.specs.Rows.{node_in, pairs_of, pairs_along}
use Rattle.wavefront.specs.Space.{IsWanted}
use Rattle.wavefront.specs.Growth.{Covers, IsStart, IsTarget, IsLeastExtension, IsGrown}
use Rattle.wavefront.specs.Growth.IsGrown.{grown}
use Rattle.wavefront.proofs.Added.{ends_left, ends_right, ends_cases, grown_entered, no_source}
use Rattle.wave_ground.specs.kept.Grounds.{Ground, IsGround}
use Rattle.group_wave.specs.kept.Growing.{IsGrowth, Matches, StartsAnew}
use Rattle.group_wave.specs.kept.WaveState.{Wave}
use Rattle.group_wave.specs.kept.Wave.{IsBest, IsComplete, IsOrigin, IsOpen, IsWave}
use Rattle.group_wave.specs.kept.Steps.{IsStarted, IsTaken, IsTraced, SameOrigins}
use Rattle.wavefront.proofs.Lists.{contains_none}
use Rattle.wavefront.proofs.WayNodes.{way_entered, way_last}

-- from the wave w0 with the tree to w3 with the tree and the way
pub record IsAdded (g : Ground) (tree : List Pair) (way : List ℕ) (w0 w1 w2 w3 : Wave) (a sink : ℕ) : Type 0 where
  pub ok : IsGround g
  pub grown : IsGrown g.space tree
  pub origins : Matches g tree w0
  pub same : SameOrigins w0 w1
  pub taken : IsTaken g w1 sink
  pub traced : IsTraced g w1 a way sink
  pub left : StartsAnew g tree w1 w2
  pub started : IsStarted g w2 w3 way

-- the wave starts at what is covered, but for the source
pub covered_origin : (g : Ground) (tree : List Pair) (w : Wave) (v : ℕ) → Matches g tree w → (v ≡ g.space.net.source → ⊥) → Covers g.space tree v → IsOrigin w v
covered_origin g tree w v m other cover = (m v).1 (record { covered = cover; alone = λ e. absurd (other e) })

pub target_open : (g : Ground) (tree : List Pair) (w : Wave) (v : ℕ) → Matches g tree w → IsTarget g.space tree v → IsOpen g w v
target_open g tree w v m t = (t.sink, λ o. t.apart ((m v).0 o).covered)

pub open_target : (g : Ground) (tree : List Pair) (w : Wave) (v : ℕ) → IsGround g → Matches g tree w → IsOpen g w v → IsTarget g.space tree v
open_target g tree w v ok m o = record { sink = o.0; apart = λ cover. o.1 (covered_origin g tree w v m (λ e. ok.space.apart (rw e at o.0)) cover) }

pub matches_same : (g : Ground) (tree : List Pair) (s t : Wave) → Matches g tree s → SameOrigins s t → Matches g tree t
matches_same g tree s t m same v = (λ o. (m v).0 ((same v).0 o), λ h. (same v).1 ((m v).1 h))

module _ (g : Ground) (tree : List Pair) (way : List ℕ) (w0 w1 w2 w3 : Wave) (a sink : ℕ) (d : IsAdded g tree way w0 w1 w2 w3 a sink) where
  abbrev after : List Pair
  after = tree ++ pairs_along a way

  matches : Matches g tree w1
  matches = matches_same g tree w0 w1 d.origins d.same

  pub added_start : IsStart g.space tree a
  added_start = (matches a).0 d.traced.start

  pub added_least : IsLeastExtension g.space tree a way sink
  added_least = record {
    extension = record {
      start = added_start;
      walk = d.traced.walk;
      apart = λ v h cover. d.traced.apart v h (covered_origin g tree w1 v matches (no_source g.space v d.ok.space (way_entered g.space a sink v way d.traced.walk h)) cover);
      target = open_target g tree w1 sink d.ok matches d.taken.«open»;
    };
    distinct = d.traced.distinct;
    least = λ c e other way. let paid = d.traced.paid in let least = d.taken.least c e other ((matches c).1 way.start) (target_open g tree w1 e matches way.target) way.walk in omega (arith, paid, least);
  }

  -- the sink is an end of the way
  added_sink : Contains way sink
  added_sink = elim (way_last g.space a sink way d.traced.walk) [
    | inl e ↦ absurd (d.taken.«open».1 (rw e at d.traced.start))
    | inr h ↦ h
  ]

  added_matches : Matches g after w3
  added_matches v = (
    λ o. elim ((d.started.origins v).0 o) [
      | inl old ↦
          let h = (d.left.origins v).0 old in
          let st = (matches v).0 h.0 in
          record {
            covered = elim st.covered [ inl e ↦ inl e | inr c ↦ inr (ends_left tree a way v c) ];
            alone = λ e. absurd (h.1 (st.alone e));
          }
      | inr new ↦ record {
        covered = inr (ends_right tree a way v new);
        alone = λ e. absurd (no_source g.space v d.ok.space (way_entered g.space a sink v way d.traced.walk new) e);
      }
    ],
    λ st. elim st.covered [
      | inl e ↦ absurd (contains_none sink (rw (st.alone e) at (ends_right tree a way sink added_sink)))
      | inr h ↦ elim (ends_cases tree a way v h) [
        | inl old ↦
            let o = covered_origin g tree w1 v matches (no_source g.space v d.ok.space (grown_entered g.space tree v d.grown old)) (inr old) in
            (d.started.origins v).1 (inl ((d.left.origins v).1 (o, λ none. contains_none v (rw none at old))))
        | inr new ↦ (d.started.origins v).1 (inr new)
      ]
    ],
  )

  pub added_growth : (rows : List Row) (w4 : Wave) → node_in rows 0 ≡ g.space.net.source → pairs_of rows ≡ after → IsWave g w4 → IsComplete g w4 → IsBest g w4 → SameOrigins w3 w4 → IsGrowth g rows w4
  added_growth rows w4 root moved wave complete best same = record {
    root = root;
    wave = wave;
    complete = complete;
    best = best;
    grown = rw moved (grown tree a way sink d.grown added_least);
    origins = rw moved (matches_same g after w3 w4 added_matches same);
  }

  -- no sink is lost
  pub added_kept : (v : ℕ) → IsWanted g.space v → IsOrigin w0 v → IsOrigin w3 v
  added_kept v wanted o =
      let st = (d.origins v).0 o in
      covered_origin g after w3 v added_matches (λ e. d.ok.space.apart (rw e at wanted)) (elim st.covered [ inl e ↦ inl e | inr c ↦ inr (ends_left tree a way v c) ])

  pub added_taken : (IsOrigin w0 sink → ⊥) × IsOrigin w3 sink
  added_taken = (λ o. d.taken.«open».1 ((d.same sink).1 o), (d.started.origins sink).1 (inr added_sink))
