-- What stands where an entry is taken, and what it says of every way that all keys are greater than
-- the best.
use Rattle.std.proofs.Common.{◌≡◌, ℕ, ◌+◌, ◌<◌, ◌≤◌, List, [], ◌∷◌, length, Contains, slice_index_or, ◌⊎◌, inl, inr, sym, ap, ◌∙◌, arith, sum_by, min}
use Rattle.std.proofs.lemmas.List.Sorted.{Contains-permutation, IsPermutation-sym, sum_by_popped}
use Rattle.std.proofs.lemmas.Bool.{cases_lt}
use Rattle.group_wave.specs.kept.WaveState.{FAR, Wave}
use Rattle.wavefront.specs.Space.{entry_cost}
use Rattle.wavefront.specs.Ways.{IsWay, way_cost}
use Rattle.wavefront.proofs.Lists.{contains_later, contains_first, contains_cases}
use Rattle.wavefront.proofs.WayNodes.{way_cost_more, way_cost_none}
use Rattle.wave_ground.specs.kept.Grounds.{Ground}
use Rattle.wave_queue.specs.kept.Queues.{Waiting}
use Rattle.group_wave.specs.kept.Wave.{AreTracks, IsBest, IsComplete, IsCompleteBut, IsOf, IsOpen, IsWave, WentOn, cost_at, label_at, unreached, weight_of, work_of}
use Rattle.group_wave.specs.kept.Steps.{IsAbove, IsLeastKey, IsPopped, IsTaken, SameOrigins}
use Rattle.group_wave.proofs.Lower.{bound_out, keeps, entered_same, same_origins, still_bound, still_of, still_open, still_serves}

module _ (g : Ground) (s t : Wave) (x : Waiting) (p : IsPopped s t x) where
  popped_label : (v : ℕ) → label_at t v ≡ label_at s v
  popped_label v = ap (λ ls. slice_index_or ls v unreached) p.labels

  pub popped_cost : (v : ℕ) → cost_at t v ≡ cost_at s v
  popped_cost v = ap (λ l. l.cost) (popped_label v)

  pub popped_origins : SameOrigins s t
  popped_origins = same_origins s t popped_label

  still_in : (e : Waiting) → Contains t.queue e → Contains s.queue e
  still_in e h = Contains-permutation _ _ e (IsPermutation-sym _ _ p.queue) (contains_later x e t.queue h)

  pub popped_wave : IsWave g s → IsWave g t
  popped_wave wave = record {
    rows = ap length p.labels ∙ wave.rows;
    near = λ v. let k = popped_cost v in let n = wave.near v in omega (arith, k, n);
    within = let same = p.limit in let n = wave.within in omega (arith, same, n);
    boxes = still_serves g s t p.boxes (keeps s t popped_origins) wave.boxes;
    sized = ap length p.known ∙ wave.sized;
    known = rw (p.boxes, p.known) wave.known;
    entered = entered_same g s t popped_label wave.entered;
    tracks = λ e h. wave.tracks e (still_in e h);
  }

  pub popped_tracks : IsWave g s → AreTracks g x
  popped_tracks wave = wave.tracks x (Contains-permutation _ _ x (IsPermutation-sym _ _ p.queue) (contains_first x t.queue))

  pub popped_best : IsBest g s → IsBest g t
  popped_best best = record {
    low = λ b target. let l = best.low b (still_open g s t b (keeps s t popped_origins) target) in let k = popped_cost b in let same = p.best in omega (arith, l, k, same);
    met = elim best.met [
      | inl far ↦ inl (p.best ∙ far)
      | inr met ↦ inr (met.0, (met.1.0, λ o. met.1.1 ((popped_origins met.0).0 o)), popped_cost met.0 ∙ met.2 ∙ sym p.best)
    ];
  }

  pub popped_work : work_of t + weight_of x ≡ work_of s
  popped_work =
      let labels = ap (λ ls. sum_by (λ l. l.cost) ls) p.labels in
      let moved = sum_by_popped weight_of x s.queue t.queue p.queue in
      omega (arith, labels, moved)

  popped_went : (v b : ℕ) → WentOn g s (cost_at s v) b → WentOn g t (cost_at t v) b
  popped_went v b (inl out) = inl (bound_out g s t b _ _ (keeps s t popped_origins) (let same = p.limit in omega (arith, same)) (let m = popped_cost v in omega (arith, m)) out)
  popped_went v b (inr went) = inr (let k = popped_cost b in let m = popped_cost v in let limit = p.limit in omega (arith, k, m, limit, went))

  -- what the entry covered is owed
  pub popped_but : IsComplete g s → IsCompleteBut g t (IsOf g t x)
  popped_but complete = record {
    each = λ v reached b edge inside. elim (complete.each v (let k = popped_cost v in omega (arith, k, reached)) b edge inside) [
      | inl went ↦ inl (popped_went v b went)
      | inr other ↦ elim other [
        | inr none ↦ absurd none
        | inl covered ↦ elim (contains_cases x covered.entry t.queue (Contains-permutation _ _ _ p.queue covered.there)) [
          | inl same ↦ inr (inr (still_of g s t x v (popped_cost v) (rw same at covered.is)))
          | inr there ↦ inr (inl (record {
            entry = covered.entry;
            there = there;
            is = still_of g s t covered.entry v (popped_cost v) covered.is;
            low = λ c way target walk. let l = still_bound g s t b _ (keeps s t popped_origins) covered.low c way target walk in let k = popped_cost v in omega (arith, l, k);
          }))
        ]
      ]
    ];
  }

-- ---- what the end of a wave says of every way
-- some entry's key is at most k, or what costs that much may be left out, or an open sink is
-- reached at that
abbrev HasBelow : Ground → Wave → ℕ → Type 0
HasBelow g w k = (w.limit ≤ k) ⊎ (((e : Waiting) × Contains w.queue e × (e.key ≤ k)) ⊎ ((b : ℕ) × IsOpen g w b × (cost_at w b ≤ k)))

below_up : (g : Ground) (w : Wave) (k m : ℕ) → k ≤ m → HasBelow g w k → HasBelow g w m
below_up g w k m up (inl far) = inl (omega (arith, far, up))
below_up g w k m up (inr (inl (e, has, low))) = inr (inl (e, has, omega (arith, low, up)))
below_up g w k m up (inr (inr (b, target, low))) = inr (inr (b, target, omega (arith, low, up)))

way_bound : (g : Ground) (w : Wave) → w.limit ≤ FAR → IsComplete g w → (way : List ℕ) (v b k : ℕ) → IsWay g.space v way b → IsOpen g w b → cost_at w v ≤ k → HasBelow g w (k + way_cost g.space way)
way_bound g w within complete [] v b k e target above = let none = way_cost_none g.space in let at = ap (cost_at w) e in inr (inr (b, target, omega (arith, above, none, at)))
way_bound g w within complete (u ∷ us) v b k (edge, inside, rest) target above = elim (cases_lt (cost_at w v) FAR) [
  | inr far ↦ inl (omega (arith, far, above, within))
  | inl near ↦
      let sum = way_cost_more g.space u us in
      elim (complete.each v near u edge inside) [
        | inr other ↦ elim other [
          | inr none ↦ absurd none
          | inl covered ↦ inr (inl (covered.entry, covered.there, let low = covered.low b us target rest in omega (arith, low, above, sum)))
        ]
        | inl went ↦ elim went [
          | inl out ↦ inl (let low = out b us target rest in omega (arith, low, above, sum))
          | inr step ↦ elim (cases_lt (k + entry_cost g.space u) (cost_at w u)) [
            | inl dearer ↦ inl (omega (arith, step, above, sum, dearer))
            | inr paid ↦ below_up g w _ _ (omega (arith, sum)) (way_bound g w within complete us u b (k + entry_cost g.space u) rest target (omega (arith, paid)))
          ]
        ]
      ]
]

-- no way costs less than the best, but what is left out
pub best_least : (g : Ground) (w : Wave) → IsWave g w → IsComplete g w → IsBest g w → IsAbove w → IsLeastKey g w (min w.best w.limit)
best_least g w wave complete best above a b way start target walk = elim (way_bound g w wave.within complete way a b 0 walk target (omega (arith, start.0))) [
  | inl far ↦ omega (arith, far)
  | inr other ↦ elim other [
    | inl entry ↦ let more = above entry.0 entry.1 in let low = entry.2 in omega (arith, more, low)
    | inr sink ↦ let low = best.low sink.0 sink.1 in let at = sink.2 in omega (arith, low, at)
  ]
]

-- a sink that is reached at the best is taken
pub taken : (g : Ground) (w : Wave) (sink : ℕ) → IsWave g w → IsComplete g w → IsBest g w → IsAbove w → IsOpen g w sink → cost_at w sink ≡ w.best → w.best < FAR → w.best ≤ w.limit → IsTaken g w sink
taken g w sink wave complete best above target at reached within = record {
  «open» = target;
  reached = omega (arith, at, reached);
  least = λ a b way start aim walk. let least = best_least g w wave complete best above a b way start aim walk in omega (arith, least, at, within);
}

-- where none is reached for less than what may be left out, no way costs less than that
pub none_taken : (g : Ground) (w : Wave) → IsWave g w → IsComplete g w → IsBest g w → IsAbove w → w.limit ≤ w.best → IsLeastKey g w w.limit
none_taken g w wave complete best above none a b way start aim walk = let least = best_least g w wave complete best above a b way start aim walk in omega (arith, least, none)
