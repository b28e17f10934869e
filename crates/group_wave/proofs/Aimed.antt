-- What is kept where boxes are put around the sinks and taken away, and how a wave begins.
use Rattle.std.proofs.Common.{◌≡◌, ℕ, zero, suc, ◌+◌, ◌<◌, ◌≤◌, ◌⊎◌, List, length, slice_index, slice_index_or, slice_set, get_or, get_or-set_same, get_or-set_other, replicate, Option, None, inl, inr, refl, sym, ap, ◌∙◌, subst, arith}
use Rattle.std.specs.Prelude.{Contains}
use Rattle.std.specs.Option.{option_map, option_map_or}
use Rattle.std.proofs.lemmas.Bool.{cases_eq, cases_lt}
use Rattle.std.proofs.lemmas.List.{get_or_default, length-replicate, length-set}
use Rattle.std.proofs.lemmas.List.Sorted.{Contains-permutation, IsPermutation-sym}
use Rattle.std.proofs.lemmas.Option.{none-some}
use Rattle.routing_problem.specs.node.Kind.{Kind}
use Rattle.routing_problem.specs.node.Kind.TheVariants.{Source, Sink, Opin, Ipin, Chanx, Chany}
use Rattle.routing_problem.specs.node.Node.{Node}
use Rattle.routing_problem.specs.Fabric.{Fabric}
use Rattle.routing_problem.specs.Nodes.{span_by, span_of}
use Rattle.wavefront.specs.Boxes.{BoundingBox, box_of_node, box_of_span}
use Rattle.wavefront.specs.kept.Bounds.{IsInsideBox, Surrounds}
use Rattle.wavefront.specs.kept.Spaces.{node_count}
use Rattle.wavefront.specs.Space.{IsWanted}
use Rattle.wavefront.proofs.Lists.{contains_cases, contains_later, contains_none}
use Rattle.wave_ground.specs.kept.Boxes.{SinkBox, box_shared, wire_of}
use Rattle.wave_ground.specs.kept.Grounds.{Ground, groups_of}
use Rattle.group_wave.specs.kept.WaveState.{FAR, NodeLabel, Wave}
use Rattle.group_wave.specs.kept.Wave.{AreKnown, IsBest, IsComplete, IsOpen, IsServed, IsWave, Serves, WentOn, cost_at, label_at, unreached}
use Rattle.group_wave.specs.kept.Steps.{NoOrigins, SameOrigins}
use Rattle.group_wave.specs.kept.Starts.{HasNoBoxes, IsAimed, IsBestPut, IsCleared, IsLeastCost, IsAroundLeft, IsBoxPut, IsNarrowed, IsNearerOf, IsWithin, IsWithout, ServesMore}
use Rattle.track_groups.specs.Groups.{group_at}
use Rattle.wave_ground.proofs.Narrower.{told_within}
use Rattle.group_wave.proofs.Lower.{bound_out, entered_same, keeps, same_origins, still_covered, still_open, still_serves}

pub blank_at : {X : Type 0} (d : X) (n k : ℕ) → get_or (replicate n d) k d ≡ d
blank_at d zero k = refl
blank_at d (suc n) zero = refl
blank_at d (suc n) (suc k) = blank_at d n k

-- ---- labels, entries and the limit are as they were
module _ (g : Ground) (s t : Wave) (labels : t.labels ≡ s.labels) (queue : t.queue ≡ s.queue) (limit : t.limit ≡ s.limit) where
  pub label_stays : (v : ℕ) → label_at t v ≡ label_at s v
  label_stays v = ap (λ ls. slice_index_or ls v unreached) labels

  pub cost_stays : (v : ℕ) → cost_at t v ≡ cost_at s v
  cost_stays v = ap (λ (l : NodeLabel). l.cost) (label_stays v)

  pub origins_stay : SameOrigins s t
  origins_stay = same_origins s t label_stays

  went_stays : (v b : ℕ) → WentOn g s (cost_at s v) b → WentOn g t (cost_at t v) b
  went_stays v b (inl out) = inl (bound_out g s t b _ _ (keeps s t origins_stay) (omega (arith, limit)) (let from = cost_stays v in omega (arith, from)) out)
  went_stays v b (inr went) = inr (let from = cost_stays v in let to = cost_stays b in omega (arith, from, to, limit, went))

  pub complete_stays : IsComplete g s → IsComplete g t
  complete_stays but = record {
    each = λ v reached b edge inside. elim (but.each v (let k = cost_stays v in omega (arith, k, reached)) b edge inside) [
      | inl went ↦ inl (went_stays v b went)
      | inr other ↦ elim other [
        | inl covered ↦ inr (inl (still_covered g s t v b (keeps s t origins_stay) (λ e h. rw queue h) (cost_stays v) covered))
        | inr none ↦ absurd none
      ]
    ];
  }

  pub wave_stays : Serves g t → length t.known ≡ length (groups_of g) → AreKnown g t → IsWave g s → IsWave g t
  wave_stays serves sized known wave = record {
    rows = ap length labels ∙ wave.rows;
    near = λ v. let k = cost_stays v in let n = wave.near v in omega (arith, k, n);
    within = let n = wave.within in omega (arith, limit, n);
    boxes = serves;
    sized = sized;
    known = known;
    entered = entered_same g s t label_stays wave.entered;
    tracks = λ e h. wave.tracks e (rw queue at h);
  }

pub none_known : (g : Ground) (w : Wave) (n : ℕ) → w.known ≡ replicate n None → AreKnown g w
none_known g w n blank group wires found = absurd (none-some wires (sym (ap (λ (ks : List (Option ℕ)). get_or ks group None) blank ∙ blank_at None n group) ∙ found))

-- ---- a node stands in the box of its places
in_span : (k : Kind) (f : Fabric) (n : Node) → let box = box_of_span (span_by k f n) in (box.left ≤ n.x) × (n.x ≤ box.right) × (box.bottom ≤ n.y) × (n.y ≤ box.top)
in_span Source f n = (omega arith, omega arith, omega arith, omega arith)
in_span Sink f n = (omega arith, omega arith, omega arith, omega arith)
in_span Opin f n = (omega arith, omega arith, omega arith, omega arith)
in_span Ipin f n = (omega arith, omega arith, omega arith, omega arith)
in_span Chanx f n = (omega arith, omega arith, omega arith, omega arith)
in_span Chany f n = (omega arith, omega arith, omega arith, omega arith)

surrounded : (f : Fabric) (v : ℕ) (outer : BoundingBox) → IsInsideBox (box_of_node f v) outer → Surrounds f outer v
surrounded f v outer within n at =
    let same : box_of_node f v ≡ box_of_span (span_of f n) = ap (λ o. option_map_or box_of_span (option_map (span_of f) o) (record { left = 0; right = 0; bottom = 0; top = 0 })) at in
    let place = in_span n.kind f n in
    let left = ap (λ b. b.left) same in
    let right = ap (λ b. b.right) same in
    let bottom = ap (λ b. b.bottom) same in
    let top = ap (λ b. b.top) same in
    (omega (arith, place.0, left, within.left), omega (arith, place.1, right, within.right), omega (arith, place.2, bottom, within.bottom), omega (arith, place.3, top, within.top))

itself : (a : BoundingBox) → IsInsideBox a a
itself a = record { left = omega arith; right = omega arith; bottom = omega arith; top = omega arith }

inside_trans : (a b c : BoundingBox) → IsInsideBox a b → IsInsideBox b c → IsInsideBox a c
inside_trans a b c h k = record { left = omega (arith, h.left, k.left); right = omega (arith, h.right, k.right); bottom = omega (arith, h.bottom, k.bottom); top = omega (arith, h.top, k.top) }

-- what two boxes share is inside the second, and around a node that stands in both
pub shared_second : (a b : BoundingBox) → IsInsideBox (box_shared a b) b
shared_second a b = record { left = omega arith; right = omega arith; bottom = omega arith; top = omega arith }

pub shared_around : (f : Fabric) (a b : BoundingBox) (v : ℕ) → IsInsideBox (box_of_node f v) a → Surrounds f b v → Surrounds f (box_shared a b) v
shared_around f a b v inside around n at =
    let one = surrounded f v a inside n at in
    let two = around n at in
    (omega (arith, one.0, two.0), omega (arith, one.1, two.1), omega (arith, one.2, two.2), omega (arith, one.3, two.3))

-- one of the boxes stays, as others come
served_more : (g : Ground) (old new : List SinkBox) (p : ℕ) → ((box : SinkBox) → Contains old box → Contains new box) → IsServed g old p → IsServed g new p
served_more g old new p more served = record { box = served.box; there = more served.box served.there; from = served.from; until = served.until; around = served.around }

-- boxes are around the first i sinks
pub record IsAiming (g : Ground) (old new : Wave) (i : ℕ) : Type 0 where
  pub labels : new.labels ≡ old.labels
  pub queue : new.queue ≡ old.queue
  pub limit : new.limit ≡ old.limit
  pub best : new.best ≡ old.best
  pub known : new.known ≡ replicate (length old.known) None
  pub within : i ≤ length g.space.net.sinks
  pub served : (p : ℕ) → p < i → IsServed g new.boxes p

module _ (g : Ground) where
  pub aiming_first : (s t : Wave) → HasNoBoxes s t → IsAiming g s t 0
  aiming_first s t none = record { labels = none.labels; queue = none.queue; limit = none.limit; best = none.best; known = none.known; within = omega arith; served = λ p lt. absurd (omega (arith, lt)) }

  pub aiming_more : (w s t : Wave) (i n : ℕ) → IsAiming g w s i → n ≤ length g.space.net.sinks → ServesMore g s t i n → IsAiming g w t n
  aiming_more w s t i n before within more = record {
    labels = more.labels ∙ before.labels;
    queue = more.queue ∙ before.queue;
    limit = more.limit ∙ before.limit;
    best = more.best ∙ before.best;
    known = more.known ∙ before.known;
    within = within;
    served = λ p lt. elim (cases_lt p i) [
      | inl less ↦ served_more g s.boxes t.boxes p more.more (before.served p less)
      | inr ge ↦ more.part p ge lt
    ];
  }

  -- ---- boxes are taken away, or made narrower
  same_within : (boxes : List SinkBox) (box : SinkBox) → Contains boxes box → IsWithin boxes box
  same_within boxes box there = record { outer = box; there = there; inside = itself box.place }

  pub narrowed_more : (w s t : Wave) → IsNarrowed g w s → IsNarrowed g s t → IsNarrowed g w t
  narrowed_more w s t a b = record {
    labels = b.labels ∙ a.labels;
    queue = b.queue ∙ a.queue;
    limit = b.limit ∙ a.limit;
    best = b.best ∙ a.best;
    known = b.known ∙ a.known;
    within = λ box there.
        let near = b.within box there in
        let far = a.within near.outer near.there in
        record { outer = far.outer; there = far.there; inside = inside_trans box.place near.outer.place far.outer.place near.inside far.inside };
    serves = b.serves;
  }

  pub around_left_more : (w : Wave) (from i : ℕ) (old new : BoundingBox) → IsAroundLeft g w from i old → IsInsideBox old new
      → (IsOpen g w (slice_index g.space.net.sinks i) → IsInsideBox (box_of_node g.space.device (slice_index g.space.net.sinks i)) new) → IsAroundLeft g w from (i + 1) new
  around_left_more w from i old new before inside here p low high less target = elim (cases_lt p i) [
    | inl earlier ↦ inside_trans (box_of_node g.space.device (slice_index g.space.net.sinks p)) old new (before p low earlier less target) inside
    | inr ge ↦
        let e : i ≡ p = omega (arith, high, ge) in
        subst (λ k. IsOpen g w (slice_index g.space.net.sinks k) → IsInsideBox (box_of_node g.space.device (slice_index g.space.net.sinks k)) new) e here target
  ]

  pub around_left_all : (w : Wave) (from i until : ℕ) (box : BoundingBox) → IsAroundLeft g w from i box → ((p : ℕ) → p < until → p < length g.space.net.sinks → p < i) → IsAroundLeft g w from until box
  around_left_all w from i until box done all p low high less target = done p low (all p high less) less target

  -- a box is made narrower, around those of its sinks that are open
  module _ (s t : Wave) (at : ℕ) (box new : SinkBox) (put : IsBoxPut s t at new) (lt : at < length s.boxes) (is : box ≡ get_or s.boxes at box) (from : new.from ≡ box.from) (until : new.until ≡ box.until)
      (covers : (p : ℕ) → box.from ≤ p → p < box.until → p < length g.space.net.sinks → IsOpen g s (slice_index g.space.net.sinks p) → Surrounds g.space.device box.place (slice_index g.space.net.sinks p) → Surrounds g.space.device new.place (slice_index g.space.net.sinks p)) where
    put_in : Contains t.boxes new
    put_in = rw put.boxes (at, let size = length-set s.boxes at new in omega (arith, size, lt), get_or-set_same s.boxes at new new lt)

    old_in : Contains s.boxes box
    old_in = (at, lt, sym is)

    put_within : IsInsideBox new.place box.place → (b : SinkBox) → Contains (slice_set s.boxes at new) b → IsWithin s.boxes b
    put_within inside b (k, less, found) =
        let size = length-set s.boxes at new in
        elim (cases_eq k at) [
          | inl e ↦
              let same : new ≡ b = sym (get_or-set_same s.boxes at new b lt) ∙ ap (λ i. get_or (slice_set s.boxes at new) i b) (sym e) ∙ found in
              record { outer = box; there = old_in; inside = rw (sym same) inside }
          | inr ne ↦ same_within s.boxes b (k, omega (arith, size, less), sym (get_or-set_other s.boxes at k new b ne) ∙ found)
        ]

    put_other : (b : SinkBox) → Contains s.boxes b → (b ≡ box) ⊎ Contains t.boxes b
    put_other b (k, less, found) = elim (cases_eq k at) [
      | inl e ↦ inl (sym found ∙ ap (λ i. get_or s.boxes i b) e ∙ get_or_default s.boxes at b box lt ∙ sym is)
      | inr ne ↦ inr (rw put.boxes (k, let size = length-set s.boxes at new in omega (arith, size, less), get_or-set_other s.boxes at k new b ne ∙ found))
    ]

    pub narrowed_put : IsInsideBox new.place box.place → Serves g s → IsNarrowed g s t
    narrowed_put inside serves = record {
      labels = put.labels;
      queue = put.queue;
      limit = put.limit;
      best = put.best;
      known = put.known;
      within = λ b there. put_within inside b (rw put.boxes at there);
      serves = λ p less target.
          let was : IsOpen g s (slice_index g.space.net.sinks p) = still_open g s t _ (keeps s t (origins_stay g s t put.labels put.queue put.limit)) target in
          let served = serves p less was in
          elim (put_other served.box served.there) [
            | inl same ↦
                let low = rw same at served.from in
                let high = rw same at served.until in
                record {
                  box = new;
                  there = put_in;
                  from = omega (arith, from, low);
                  until = omega (arith, until, high);
                  around = covers p low high less was (rw same at served.around);
                }
            | inr there ↦ record { box = served.box; there = there; from = served.from; until = served.until; around = served.around }
          ];
    }

  -- no sink that the box is for is open
  pub narrowed_one : (s t : Wave) (box : SinkBox) → IsWithout s t box → Serves g s
      → ((p : ℕ) → box.from ≤ p → p < box.until → p < length g.space.net.sinks → IsOpen g s (slice_index g.space.net.sinks p) → ⊥) → IsNarrowed g s t
  narrowed_one s t box gone serves done = record {
    labels = gone.labels;
    queue = gone.queue;
    limit = gone.limit;
    best = gone.best;
    known = gone.known;
    within = λ b there. same_within s.boxes b (Contains-permutation _ _ b (IsPermutation-sym _ _ gone.boxes) (contains_later box b t.boxes there));
    serves = λ p lt target.
        let was : IsOpen g s (slice_index g.space.net.sinks p) = still_open g s t _ (keeps s t (origins_stay g s t gone.labels gone.queue gone.limit)) target in
        let served = serves p lt was in
        elim (contains_cases box served.box t.boxes (Contains-permutation _ _ served.box gone.boxes served.there)) [
          | inl same ↦ absurd (done p (rw same at served.from) (rw same at served.until) lt was)
          | inr there ↦ record { box = served.box; there = there; from = served.from; until = served.until; around = served.around }
        ];
  }

  -- ---- the wave begins
  module _ (s t u : Wave) (cleared : IsCleared s t) (aimed : IsAimed g t u) where
    begun_labels : u.labels ≡ replicate (length s.labels) unreached
    begun_labels = aimed.labels ∙ cleared.labels

    begun_cost : (v : ℕ) → cost_at u v ≡ FAR
    begun_cost v = ap (λ (l : NodeLabel). l.cost) (ap (λ ls. slice_index_or ls v unreached) begun_labels ∙ blank_at unreached (length s.labels) v)

    pub begun_wave : length s.labels ≡ node_count g.space → length s.known ≡ length (groups_of g) → IsWave g u
    begun_wave rows sized = record {
      rows = ap length begun_labels ∙ length-replicate _ _ ∙ rows;
      near = λ v. let k = begun_cost v in omega (arith, k);
      within = let a = aimed.limit in let b = cleared.limit in omega (arith, a, b);
      boxes = aimed.serves;
      sized = ap length aimed.known ∙ length-replicate _ _ ∙ ap length cleared.known ∙ sized;
      known = none_known g u (length t.known) aimed.known;
      entered = λ v reached. absurd (let k = begun_cost v in omega (arith, k, reached));
      tracks = λ e h. absurd (contains_none e (rw (aimed.queue ∙ cleared.queue) at h));
    }

    pub begun_complete : IsComplete g u
    begun_complete = record { each = λ v reached. absurd (let k = begun_cost v in omega (arith, k, reached)) }

    pub begun_best : IsBest g u
    begun_best = record {
      low = λ b target. let k = begun_cost b in let a = aimed.best in let c = cleared.best in omega (arith, k, a, c);
      met = inl (aimed.best ∙ cleared.best);
    }

    pub begun_origins : NoOrigins u
    begun_origins v o = let k = begun_cost v in omega (arith, k, o.0)

  -- ---- the nearest sink
  pub record IsLeastBefore (w : Wave) (i least : ℕ) : Type 0 where
    pub low : (k : ℕ) → k < i → IsOpen g w (slice_index g.space.net.sinks k) → least ≤ cost_at w (slice_index g.space.net.sinks k)
    pub met : (least ≡ FAR) ⊎ ((b : ℕ) × IsOpen g w b × (cost_at w b ≡ least))

  pub least_first : (w : Wave) (least : ℕ) → least ≡ FAR → IsLeastBefore w 0 least
  least_first w least far = record { low = λ k lt. absurd (omega (arith, lt)); met = inl far }

  pub least_more : (w : Wave) (i old new : ℕ) → IsWanted g.space (slice_index g.space.net.sinks i) → IsLeastBefore w i old → IsNearerOf w (slice_index g.space.net.sinks i) old new → IsLeastBefore w (i + 1) new
  least_more w i old new wanted before near = record {
    low = λ k lt target. elim (cases_lt k i) [
      | inl less ↦ let l = before.low k less target in let d = near.down in omega (arith, l, d)
      | inr ge ↦
          let e : k ≡ i = omega (arith, lt, ge) in
          let same = ap (λ j. cost_at w (slice_index g.space.net.sinks j)) e in
          let l = near.low (subst (λ j. IsOpen g w (slice_index g.space.net.sinks j)) e target).1 in
          omega (arith, l, same)
    ];
    met = elim near.met [
      | inl e ↦ elim before.met [ inl far ↦ inl (e ∙ far) | inr m ↦ inr (m.0, m.1, m.2 ∙ sym e) ]
      | inr n ↦ inr (slice_index g.space.net.sinks i, (wanted, n.0), n.1)
    ];
  }

  pub least_all : (w : Wave) (i least : ℕ) → length g.space.net.sinks ≤ i → IsLeastBefore w i least → IsLeastCost g w least
  least_all w i least all done = record {
    low = λ b target. under b target target.0;
    met = done.met;
  }
    where
      under : (b : ℕ) → IsOpen g w b → IsWanted g.space b → least ≤ cost_at w b
      under b target (k, lt, found) =
          let e : slice_index g.space.net.sinks k ≡ b = get_or_default g.space.net.sinks k 0 b lt ∙ found in
          let l = done.low k (omega (arith, lt, all)) (subst (IsOpen g w) (sym e) target) in
          let same = ap (cost_at w) e in
          omega (arith, l, same)

  -- ---- the wave is renewed
  still_known : (s t : Wave) → t.known ≡ s.known → ((box : SinkBox) → Contains t.boxes box → IsWithin s.boxes box) → AreKnown g s → AreKnown g t
  still_known s t same within known group wires found box there =
      let has = within box there in
      let low = known group wires (rw same at found) has.outer has.there in
      let more = told_within box.place has.outer.place (wire_of (group_at (groups_of g) group)) has.inside in
      omega (arith, low, more)

  module _ (s t u : Wave) (least : ℕ) (put : IsBestPut s t least) (left : IsNarrowed g t u) where
    renewed_labels : u.labels ≡ s.labels
    renewed_labels = left.labels ∙ put.labels

    renewed_queue : u.queue ≡ s.queue
    renewed_queue = left.queue ∙ put.queue

    renewed_limit : u.limit ≡ s.limit
    renewed_limit = left.limit ∙ put.limit

    pub renewed_origins : SameOrigins s u
    renewed_origins = origins_stay g s u renewed_labels renewed_queue renewed_limit

    pub renewed_complete : IsComplete g s → IsComplete g u
    renewed_complete = complete_stays g s u renewed_labels renewed_queue renewed_limit

    renewed_within : (box : SinkBox) → Contains u.boxes box → IsWithin s.boxes box
    renewed_within box there = rw (sym put.boxes) (left.within box there)

    pub renewed_wave : IsWave g s → IsWave g u
    renewed_wave wave = wave_stays g s u renewed_labels renewed_queue renewed_limit left.serves (ap length left.known ∙ ap length put.known ∙ wave.sized) (still_known s u (left.known ∙ put.known) renewed_within wave.known) wave

    pub renewed_best : IsLeastCost g s least → IsBest g u
    renewed_best is =
        let cost : (v : ℕ) → cost_at u v ≡ cost_at s v = cost_stays g s u renewed_labels renewed_queue renewed_limit in
        let at : u.best ≡ least = left.best ∙ put.best in
        record {
          low = λ b target. let l = is.low b (still_open g s u b (keeps s u renewed_origins) target) in let k = cost b in omega (arith, l, k, at);
          met = elim is.met [
            | inl far ↦ inl (at ∙ far)
            | inr m ↦ inr (m.0, (m.1.0, λ o. m.1.1 ((renewed_origins m.0).0 o)), cost m.0 ∙ m.2 ∙ sym at)
          ];
        }

  -- a wave whose best cost is put has the boxes that it had
  pub put_serves : (s t : Wave) (least : ℕ) → IsBestPut s t least → Serves g s → Serves g t
  put_serves s t least put = still_serves g s t put.boxes (keeps s t (origins_stay g s t put.labels put.queue put.limit))
