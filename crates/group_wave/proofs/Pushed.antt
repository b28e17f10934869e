-- What stands where entries come.
use Rattle.std.proofs.Common.{◌≡◌, ℕ, ◌+◌, ◌-◌, length, slice_index_or, inl, inr, ap, ◌∙◌, arith, sum_by}
use Rattle.std.specs.Prelude.{Contains}
use Rattle.std.proofs.lemmas.List.Sorted.{Contains-permutation, IsPermutation-sym, sum_by_pushed}
use Rattle.wavefront.proofs.Lists.{contains_first, contains_later, contains_cases}
use Rattle.wave_ground.specs.kept.Grounds.{Ground}
use Rattle.wave_queue.specs.kept.Queues.{Waiting}
use Rattle.group_wave.specs.kept.WaveState.{Wave}
use Rattle.group_wave.specs.kept.Wave.{AreTracks, IsBound, IsOf, IsWaiting, IsWave, cost_at, label_at, unreached, weight_of, work_of}
use Rattle.group_wave.specs.kept.Steps.{IsPushed, Lowers}
use Rattle.group_wave.proofs.Lower.{keeps, same_origins, still_of, still_bound, still_serves, still_settled, waiting_settled, entered_same}

module _ (g : Ground) (s t : Wave) (e : Waiting) (p : IsPushed s t e) where
  pub pushed_label : (v : ℕ) → label_at t v ≡ label_at s v
  pushed_label v = ap (λ ls. slice_index_or ls v unreached) p.labels

  pub pushed_cost : (v : ℕ) → cost_at t v ≡ cost_at s v
  pushed_cost v = ap (λ l. l.cost) (pushed_label v)

  pub pushed_in : Contains t.queue e
  pushed_in = Contains-permutation _ _ _ p.queue (contains_first e s.queue)

  pub pushed_lowers : Lowers g s t (λ v. ⊥)
  pushed_lowers = record {
    down = λ v. let k = pushed_cost v in omega (arith, k);
    wait = λ v. inl (pushed_cost v);
    origins = same_origins s t pushed_label;
    kept = λ x h. Contains-permutation _ _ x p.queue (contains_later e x s.queue h);
    limit = let same = p.limit in omega (arith, same);
    boxes = p.boxes;
  }

  pub pushed_wave : IsWave g s → AreTracks g e → IsWave g t
  pushed_wave wave tracks = record {
    rows = ap length p.labels ∙ wave.rows;
    near = λ v. let k = pushed_cost v in let n = wave.near v in omega (arith, k, n);
    within = let same = p.limit in let n = wave.within in omega (arith, same, n);
    boxes = still_serves g s t p.boxes (keeps s t pushed_lowers.origins) wave.boxes;
    sized = ap length p.known ∙ wave.sized;
    known = rw (p.boxes, p.known) wave.known;
    entered = entered_same g s t pushed_label wave.entered;
    tracks = λ x h. elim (contains_cases e x s.queue (Contains-permutation _ _ x (IsPermutation-sym _ _ p.queue) h)) [
      | inl f ↦ rw f tracks
      | inr later ↦ wave.tracks x later
    ];
  }

  pub pushed_work : work_of t ≡ work_of s + weight_of e
  pushed_work =
      let labels = ap (λ ls. sum_by (λ l. l.cost) ls) p.labels in
      let moved = sum_by_pushed weight_of e s.queue t.queue p.queue in
      omega (arith, labels, moved)

  -- a node of the entry waits, where its key is low
  pub pushed_waits : (v : ℕ) → IsOf g s e v → IsBound g s v (e.key - e.label) → IsWaiting g t v
  pushed_waits v of low = record {
    entry = e;
    there = pushed_in;
    is = still_of g s t e v (pushed_cost v) of;
    low = λ b way target walk.
        let l = still_bound g s t v (e.key - e.label) (keeps s t pushed_lowers.origins) low b way target walk in
        let k = pushed_cost v in
        let label = of.label in
        omega (arith, l, k, label);
  }

  -- nodes that were new wait then
  pub new_wait : (first : Wave) (New : ℕ → Type 0) → Lowers g first s New → ((v : ℕ) → New v → IsOf g s e v) → ((v : ℕ) → New v → IsBound g s v (e.key - e.label)) → Lowers g first t (λ v. ⊥)
  new_wait first New low of bound = record {
    down = λ v. let d = low.down v in let k = pushed_cost v in omega (arith, d, k);
    wait = λ v. elim (low.wait v) [
      | inl same ↦ inl (pushed_cost v ∙ same)
      | inr later ↦ elim later [
        | inl settled ↦ inr (inl (still_settled g s t (λ u. ⊥) v pushed_lowers (pushed_cost v) settled))
        | inr n ↦ inr (inl (waiting_settled g t v (pushed_waits v (of v n) (bound v n))))
      ]
    ];
    origins = λ v. (λ o. (low.origins v).0 ((pushed_lowers.origins v).0 o), λ o. (pushed_lowers.origins v).1 ((low.origins v).1 o));
    kept = λ x h. pushed_lowers.kept x (low.kept x h);
    limit = let a = low.limit in let b = p.limit in omega (arith, a, b);
    boxes = p.boxes ∙ low.boxes;
  }
