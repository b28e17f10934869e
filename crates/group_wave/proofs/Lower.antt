-- What the lowering of labels keeps.
use Rattle.std.proofs.Common.{◌≡◌, ℕ, ◌+◌, ◌-◌, ◌*◌, ◌<◌, ◌≤◌, ◌∷◌, length, slice_index_or, ◌⊎◌, inl, inr, refl, sym, ap, ◌∙◌, arith, sum_by, get_or-set_other, get_or-set_same}
use Rattle.std.specs.Prelude.{Contains}
use Rattle.std.proofs.lemmas.List.Sums.{sum_by-set}
use Rattle.std.proofs.lemmas.List.{length-set}
use Rattle.std.proofs.lemmas.Bool.{cases_eq}
use Rattle.group_wave.specs.kept.WaveState.{FAR, NodeLabel, Wave}
use Rattle.wavefront.specs.Space.{HasEdge, IsInside, entry_cost}
use Rattle.wavefront.proofs.WayNodes.{way_cost_more}
use Rattle.wave_ground.specs.kept.Grounds.{Ground}
use Rattle.wave_queue.specs.kept.Queues.{Waiting}
use Rattle.group_wave.specs.kept.Wave.{IsBound, IsCompleteBut, IsComplete, IsDead, IsEdgeCovered, IsEntered, IsOf, IsOpen, IsOrigin, IsSettled, IsWaiting, IsWave, Serves, WentAlong, WentOn, cost_at, label_at, parent_of, unreached}
use Rattle.group_wave.specs.kept.Steps.{IsLabelled, KeepsOrigins, Lowers, SameOrigins}

-- the same label is a start's before and after
pub same_origin : (s t : Wave) (v : ℕ) → label_at t v ≡ label_at s v → IsOrigin s v → IsOrigin t v
same_origin s t v same o = (ap (λ l. l.cost) same ∙ o.0, ap (λ l. l.parent) same ∙ o.1)

pub same_origins : (s t : Wave) → ((v : ℕ) → label_at t v ≡ label_at s v) → SameOrigins s t
same_origins s t same v = (same_origin t s v (sym (same v)), same_origin s t v (same v))

-- what labels count of the work
abbrev pub label_work : Wave → ℕ
label_work w = 3 * sum_by (λ l. l.cost) w.labels

pub keeps : (s t : Wave) → SameOrigins s t → KeepsOrigins s t
keeps s t same v o = (same v).1 o

module _ (g : Ground) where
  -- a sink that is open was so before, while starts stay
  pub still_open : (s t : Wave) (b : ℕ) → KeepsOrigins s t → IsOpen g t b → IsOpen g s b
  still_open s t b starts target = (target.0, λ o. target.1 (starts b o))

  pub still_bound : (s t : Wave) (v k : ℕ) → KeepsOrigins s t → IsBound g s v k → IsBound g t v k
  still_bound s t v k starts bound b way target walk = bound b way (still_open s t b starts target) walk

  pub still_dead : (s t : Wave) (v : ℕ) → KeepsOrigins s t → IsDead g s v → IsDead g t v
  still_dead s t v starts dead b way target walk = dead b way (still_open s t b starts target) walk

  pub still_serves : (s t : Wave) → t.boxes ≡ s.boxes → KeepsOrigins s t → Serves g s → Serves g t
  still_serves s t boxes starts serves p lt target = rw boxes (serves p lt (still_open s t _ starts target))

  -- a dead end has any bound
  pub dead_bound : (w : Wave) (v k : ℕ) → IsDead g w v → IsBound g w v k
  dead_bound w v k dead b way target walk = absurd (dead b way target walk)

  -- each way on that was left out still is, where no cost is greater
  pub bound_out : (s t : Wave) (v from to : ℕ) → KeepsOrigins s t → t.limit ≤ s.limit → from ≤ to → IsBound g s v (s.limit - from) → IsBound g t v (t.limit - to)
  bound_out s t v from to starts limit up bound b way target walk = let low = bound b way (still_open s t b starts target) walk in omega (arith, low, limit, up)

  pub went_up : (w : Wave) (label more b : ℕ) → label ≤ more → WentOn g w label b → WentOn g w more b
  went_up w label more b up (inl out) = inl (bound_out w w b _ _ (λ v o. o) (omega arith) (omega (arith, up)) out)
  went_up w label more b up (inr went) = inr (omega (arith, up, went))

  pub went_lower : (s t : Wave) (New : ℕ → Type 0) (label b : ℕ) → Lowers g s t New → WentOn g s label b → WentOn g t label b
  went_lower s t New label b low (inl out) = inl (bound_out s t b _ _ (keeps s t low.origins) low.limit (omega arith) out)
  went_lower s t New label b low (inr went) = inr (let d = low.down b in let limit = low.limit in omega (arith, d, limit, went))

  -- an entry of a node that waits covers each edge from it
  pub waiting_covers : (w : Wave) (v b : ℕ) → IsWaiting g w v → HasEdge g.space v b → IsInside g.space b → IsEdgeCovered g w v b
  waiting_covers w v b waits edge inside = record {
    entry = waits.entry;
    there = waits.there;
    is = waits.is;
    low = λ c way target walk.
        let low = waits.low c (b ∷ way) target (edge, inside, walk) in
        let sum = way_cost_more g.space b way in
        omega (arith, low, sum);
  }

  pub still_of : (s t : Wave) (e : Waiting) (v : ℕ) → cost_at t v ≡ cost_at s v → IsOf g s e v → IsOf g t e v
  still_of s t e v same of = record { holds = of.holds; label = of.label ∙ sym same }

  pub still_covered : (s t : Wave) (v b : ℕ) → KeepsOrigins s t → ((e : Waiting) → Contains s.queue e → Contains t.queue e) → cost_at t v ≡ cost_at s v → IsEdgeCovered g s v b → IsEdgeCovered g t v b
  still_covered s t v b origins kept same covered = record {
    entry = covered.entry;
    there = kept covered.entry covered.there;
    is = still_of s t covered.entry v same covered.is;
    low = λ c way target walk. let l = covered.low c way (still_open s t c origins target) walk in omega (arith, l, same);
  }

  pub waiting_settled : (w : Wave) (v : ℕ) → IsWaiting g w v → IsSettled g w v
  waiting_settled w v waits b edge inside = inr (waiting_covers w v b waits edge inside)

  pub still_settled : (s t : Wave) (New : ℕ → Type 0) (v : ℕ) → Lowers g s t New → cost_at t v ≡ cost_at s v → IsSettled g s v → IsSettled g t v
  still_settled s t New v low same settled b edge inside = elim (settled b edge inside) [
    | inl went ↦ inl (went_up t (cost_at s v) (cost_at t v) b (omega (arith, same)) (went_lower s t New (cost_at s v) b low went))
    | inr covered ↦ inr (still_covered s t v b (keeps s t low.origins) low.kept same covered)
  ]

  -- what was complete but for some nodes is so but for those of them that keep their labels, and
  -- new ones
  pub complete_lower : (s t : Wave) (New Old Owed : ℕ → Type 0) → Lowers g s t New → ((v : ℕ) → Old v → cost_at t v ≡ cost_at s v → Owed v) → ((v : ℕ) → New v → Owed v)
      → IsCompleteBut g s Old → IsCompleteBut g t Owed
  complete_lower s t New Old Owed low old new but = record {
    each = λ v reached b edge inside. elim (low.wait v) [
      | inr later ↦ elim later [
        | inl settled ↦ elim (settled b edge inside) [ inl went ↦ inl went | inr covered ↦ inr (inl covered) ]
        | inr n ↦ inr (inr (new v n))
      ]
      | inl same ↦ elim (but.each v (omega (arith, same, reached)) b edge inside) [
        | inl went ↦ inl (went_up t (cost_at s v) (cost_at t v) b (omega (arith, same)) (went_lower s t New (cost_at s v) b low went))
        | inr other ↦ elim other [
          | inl covered ↦ inr (inl (still_covered s t v b (keeps s t low.origins) low.kept same covered))
          | inr o ↦ inr (inr (old v o same))
        ]
      ]
    ];
  }

  -- where the labels of all that are owed went along their edges, nothing is owed
  pub complete_went : (w : Wave) (Owed : ℕ → Type 0) → IsCompleteBut g w Owed → ((v : ℕ) → Owed v → WentAlong g w v (cost_at w v)) → IsComplete g w
  complete_went w Owed but went = record {
    each = λ v reached b edge inside. elim (but.each v reached b edge inside) [
      | inl on ↦ inl on
      | inr other ↦ elim other [ inl covered ↦ inr (inl covered) | inr o ↦ inl (went v o b edge inside) ]
    ];
  }

  pub lowers_refl : (w : Wave) → Lowers g w w (λ v. ⊥)
  lowers_refl w = record { down = λ v. omega arith; wait = λ v. inl refl; origins = λ v. (λ o. o, λ o. o); kept = λ e h. h; limit = omega arith; boxes = refl }

  pub origins_then : (s t u : Wave) → SameOrigins s t → SameOrigins t u → SameOrigins s u
  origins_then s t u a b v = (λ o. (a v).0 ((b v).0 o), λ o. (b v).1 ((a v).1 o))

  pub lowers_then : (s t u : Wave) (First Second New : ℕ → Type 0) → Lowers g s t First → Lowers g t u Second → ((v : ℕ) → First v → cost_at u v ≡ cost_at t v → New v) → ((v : ℕ) → Second v → New v)
      → Lowers g s u New
  lowers_then s t u First Second New a b first second = record {
    down = λ v. let x = a.down v in let y = b.down v in omega (arith, x, y);
    wait = λ v. elim (b.wait v) [
      | inr later ↦ elim later [ inl settled ↦ inr (inl settled) | inr n ↦ inr (inr (second v n)) ]
      | inl e ↦ elim (a.wait v) [
        | inl f ↦ inl (e ∙ f)
        | inr before ↦ elim before [ inl settled ↦ inr (inl (still_settled t u Second v b e settled)) | inr n ↦ inr (inr (first v n e)) ]
      ]
    ];
    origins = origins_then s t u a.origins b.origins;
    kept = λ e h. b.kept e (a.kept e h);
    limit = let x = a.limit in let y = b.limit in omega (arith, x, y);
    boxes = b.boxes ∙ a.boxes;
  }

  -- nodes with the labels that they had are entered as they were
  pub entered_same : (s t : Wave) → ((v : ℕ) → label_at t v ≡ label_at s v) → ((v : ℕ) → cost_at s v < FAR → IsOrigin s v ⊎ IsEntered g s v) → (v : ℕ) → cost_at t v < FAR → IsOrigin t v ⊎ IsEntered g t v
  entered_same s t same entered v reached =
      let key = ap (λ l. l.cost) (same v) in
      let parent = ap (λ l. l.parent) (same v) in
      elim (entered v (omega (arith, key, reached))) [
        | inl o ↦ inl (same_origin s t v (same v) o)
        | inr e ↦
            let d = ap (λ l. l.cost) (same (parent_of s v)) in
            let near = e.reached in
            let paid = e.paid in
            inr (record {
              edge = rw parent e.edge;
              inside = e.inside;
              reached = rw parent (omega (arith, d, near));
              paid = rw (parent, key) (omega (arith, d, paid));
              priced = ap (λ l. l.price) (same v) ∙ e.priced;
            })
      ]

  -- a node that is reached, and is no start, is entered
  pub entered_here : (w : Wave) → IsWave g w → (v : ℕ) → cost_at w v < FAR → 0 < cost_at w v → IsEntered g w v
  entered_here w wave v near some = elim (wave.entered v near) [
    | inl o ↦ absurd (let zero = o.0 in omega (arith, zero, some))
    | inr e ↦ e
  ]

  -- ---- a label is set
  module _ (s t : Wave) (node : ℕ) (label : NodeLabel) (set : IsLabelled s t node label) (lt : node < length s.labels) where
    pub label_here : label_at t node ≡ label
    label_here = ap (λ xs. slice_index_or xs node unreached) set.labels ∙ get_or-set_same s.labels node label unreached lt

    pub label_there : (v : ℕ) → (v ≡ node → ⊥) → label_at t v ≡ label_at s v
    label_there v ne = ap (λ xs. slice_index_or xs v unreached) set.labels ∙ get_or-set_other s.labels node v label unreached ne

    pub set_down : label.cost ≤ cost_at s node → (v : ℕ) → cost_at t v ≤ cost_at s v
    set_down less v = elim (cases_eq v node) [
      | inl e ↦ let here = ap (λ l. l.cost) label_here in rw e (omega (arith, here, less))
      | inr ne ↦ let there = ap (λ l. l.cost) (label_there v ne) in omega (arith, there)
    ]

    -- a cheaper way makes no start and ends none
    set_origins : label.cost < cost_at s node → cost_at s label.parent ≤ label.cost → SameOrigins s t
    set_origins less above v = elim (cases_eq v node) [
      | inl e ↦
          let k = ap (cost_at s) e in
          (λ o. let p : label.parent ≡ node = sym (ap (λ l. l.parent) label_here) ∙ rw e at o.1 in let q = ap (cost_at s) p in absurd (omega (arith, q, less, above)), λ o. absurd (omega (arith, o.0, less, k)))
      | inr ne ↦ let same = label_there v ne in (λ o. same_origin t s v (sym same) o, λ o. same_origin s t v same o)
    ]

    pub set_lowers : label.cost < cost_at s node → cost_at s label.parent ≤ label.cost → Lowers g s t (λ v. v ≡ node)
    set_lowers less above = record {
      down = set_down (omega (arith, less));
      wait = λ v. elim (cases_eq v node) [ inl e ↦ inr (inr e) | inr ne ↦ inl (ap (λ l. l.cost) (label_there v ne)) ];
      origins = set_origins less above;
      kept = λ e h. rw set.queue h;
      limit = let same = set.limit in omega (arith, same);
      boxes = set.boxes;
    }

    -- another way of the same cost
    pub set_keeps : label.cost ≡ cost_at s node → 0 < label.cost → Lowers g s t (λ v. ⊥)
    set_keeps same some = record {
      down = set_down (omega (arith, same));
      wait = λ v. elim (cases_eq v node) [
        | inl e ↦ inl (let here = ap (λ l. l.cost) label_here in rw e (here ∙ same))
        | inr ne ↦ inl (ap (λ l. l.cost) (label_there v ne))
      ];
      origins = λ v. elim (cases_eq v node) [
        | inl e ↦
            let here = ap (λ l. l.cost) label_here in
            let a = ap (cost_at s) e in
            let b = ap (cost_at t) e in
            (λ o. absurd (omega (arith, o.0, here, some, b)), λ o. absurd (omega (arith, o.0, same, some, a)))
        | inr ne ↦ let l = label_there v ne in (λ o. same_origin t s v (sym l) o, λ o. same_origin s t v l o)
      ];
      kept = λ e h. rw set.queue h;
      limit = let same = set.limit in omega (arith, same);
      boxes = set.boxes;
    }

    pub entered_lower : (v : ℕ) → ((x : ℕ) → cost_at t x ≤ cost_at s x) → label_at t v ≡ label_at s v → IsEntered g s v → IsEntered g t v
    entered_lower v down same e =
        let key = ap (λ l. l.cost) same in
        let parent = ap (λ l. l.parent) same in
        let d = down (parent_of s v) in
        let reached = e.reached in
        let paid = e.paid in
        record {
          edge = rw parent e.edge;
          inside = e.inside;
          reached = rw parent (omega (arith, d, reached));
          paid = rw (parent, key) (omega (arith, d, paid));
          priced = ap (λ l. l.price) same ∙ e.priced;
        }

    -- a way that is offered and taken
    pub set_enters : (key : ℕ) → label.cost ≤ cost_at s node → cost_at s label.parent ≤ key → key < FAR → HasEdge g.space label.parent node → IsInside g.space node → key + entry_cost g.space node ≤ label.cost → label.price ≡ entry_cost g.space node
        → IsEntered g t node
    set_enters key less above near edge inside cost price =
        let key_here : cost_at t node ≡ label.cost = ap (λ l. l.cost) label_here in
        let parent_here : parent_of t node ≡ label.parent = ap (λ l. l.parent) label_here in
        let d = set_down less label.parent in
        record {
          edge = rw parent_here edge;
          inside = inside;
          reached = rw parent_here (omega (arith, d, above, near));
          paid = rw (parent_here, key_here) (omega (arith, d, above, cost));
          priced = ap (λ l. l.price) label_here ∙ price;
        }

    pub set_wave : IsWave g s → label.cost ≤ cost_at s node → label.cost < FAR → SameOrigins s t → IsEntered g t node → IsWave g t
    set_wave wave less near origins way =
        let down = set_down less in
        let rows = wave.rows in
        record {
          rows = ap length set.labels ∙ length-set _ _ _ ∙ wave.rows;
          near = λ v. let d = down v in let n = wave.near v in omega (arith, d, n);
          within = let same = set.limit in let n = wave.within in omega (arith, same, n);
          boxes = still_serves s t set.boxes (keeps s t origins) wave.boxes;
          sized = ap length set.known ∙ wave.sized;
          known = rw (set.boxes, set.known) wave.known;
          entered = λ v reached. elim (cases_eq v node) [
            | inl e ↦ inr (rw e way)
            | inr ne ↦
                let same = label_there v ne in
                let key = ap (λ l. l.cost) same in
                elim (wave.entered v (omega (arith, key, reached))) [
                  | inl o ↦ inl (same_origin s t v same o)
                  | inr e ↦ inr (entered_lower v down same e)
                ]
          ];
          tracks = λ e h. wave.tracks e (rw set.queue at h);
        }

    -- a lower label is less work
    pub set_work : label.cost < cost_at s node → label_work t + 3 ≤ label_work s
    set_work less =
        let sums = sum_by-set (λ l. l.cost) s.labels node label unreached lt in
        let sum = ap (λ ls. sum_by (λ l. l.cost) ls) set.labels in
        omega (arith, sums, sum, less)

    pub set_same_work : label.cost ≡ cost_at s node → label_work t ≡ label_work s
    set_same_work same =
        let sums = sum_by-set (λ l. l.cost) s.labels node label unreached lt in
        let sum = ap (λ ls. sum_by (λ l. l.cost) ls) set.labels in
        omega (arith, sums, sum, same)
