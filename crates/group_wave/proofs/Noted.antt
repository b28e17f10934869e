-- What stands where no label and no entry changes.
use Rattle.std.proofs.Common.{◌≡◌, ℕ, ◌<◌, length, get_or, get_or-set_other, get_or-set_same, slice_index_or, slice_set, Some, None, inl, inr, sym, ap, ◌∙◌, subst, arith, sum_by}
use Rattle.std.proofs.lemmas.Bool.{cases_eq}
use Rattle.std.proofs.lemmas.List.{length-set}
use Rattle.std.proofs.lemmas.Option.{same_Some}
use Rattle.track_groups.specs.Groups.{group_at}
use Rattle.wave_ground.specs.kept.Boxes.{IsLow, wire_of}
use Rattle.wave_ground.specs.kept.Grounds.{Ground, groups_of}
use Rattle.group_wave.specs.kept.WaveState.{Wave}
use Rattle.group_wave.specs.kept.Wave.{AreKnown, IsWave, cost_at, label_at, unreached, weight_of, work_of}
use Rattle.group_wave.specs.kept.Steps.{IsNoted, KeepsSinks, Lowers}
use Rattle.group_wave.proofs.Lower.{keeps, entered_same, same_origins, still_serves}

-- what is known of groups, where one more is
known_more : (g : Ground) (s t : Wave) (group wires : ℕ) → AreKnown g s → group < length s.known → t.boxes ≡ s.boxes → t.known ≡ slice_set s.known group (Some wires) → IsLow s.boxes (wire_of (group_at (groups_of g) group)) wires → AreKnown g t
known_more g s t group wires known there boxes set low other found e = elim (cases_eq other group) [
  | inl same ↦
      let here : Some wires ≡ Some found = sym (get_or-set_same s.known group (Some wires) None there) ∙ ap (λ k. get_or (slice_set s.known group (Some wires)) k None) (sym same) ∙ ap (λ ks. get_or ks other None) (sym set) ∙ e in
      subst (λ n. IsLow t.boxes (wire_of (group_at (groups_of g) other)) n) (same_Some _ _ here) (rw (same, boxes) low)
  | inr apart ↦ rw boxes (known other found (sym (get_or-set_other s.known group other (Some wires) None apart) ∙ ap (λ ks. get_or ks other None) (sym set) ∙ e))
]

module _ (g : Ground) (s t : Wave) (limit : ℕ) (noted : IsNoted s t limit) where
  pub noted_label : (v : ℕ) → label_at t v ≡ label_at s v
  noted_label v = ap (λ ls. slice_index_or ls v unreached) noted.labels

  noted_cost : (v : ℕ) → cost_at t v ≡ cost_at s v
  noted_cost v = ap (λ l. l.cost) (noted_label v)

  pub noted_lowers : Lowers g s t (λ v. ⊥)
  noted_lowers = record {
    down = λ v. let k = noted_cost v in omega (arith, k);
    wait = λ v. inl (noted_cost v);
    origins = same_origins s t noted_label;
    kept = λ e h. rw noted.queue h;
    limit = let same = noted.limit in omega (arith, same);
    boxes = noted.boxes;
  }

  pub noted_wave : IsWave g s → length t.known ≡ length (groups_of g) → AreKnown g t → IsWave g t
  noted_wave wave sized known = record {
    rows = ap length noted.labels ∙ wave.rows;
    near = λ v. let k = noted_cost v in let n = wave.near v in omega (arith, k, n);
    within = let same = noted.limit in let n = wave.within in omega (arith, same, n);
    boxes = still_serves g s t noted.boxes (keeps s t noted_lowers.origins) wave.boxes;
    sized = sized;
    known = known;
    entered = entered_same g s t noted_label wave.entered;
    tracks = λ e h. wave.tracks e (rw noted.queue at h);
  }

  -- one more group is known
  pub noted_group : (group wires : ℕ) → IsWave g s → group < length (groups_of g) → t.known ≡ slice_set s.known group (Some wires) → IsLow s.boxes (wire_of (group_at (groups_of g) group)) wires → IsWave g t
  noted_group group wires wave there set low =
      let sized = wave.sized in
      noted_wave wave (ap length set ∙ (length-set s.known group (Some wires) ∙ sized))
      (known_more g s t group wires wave.known (omega (arith, there, sized)) noted.boxes set low)

  pub noted_work : work_of t ≡ work_of s
  noted_work =
      let labels = ap (λ ls. sum_by (λ l. l.cost) ls) noted.labels in
      let entries = ap (λ q. sum_by weight_of q) noted.queue in
      omega (arith, labels, entries)

  pub noted_sinks : KeepsSinks g s t
  noted_sinks = record { best = noted.best; labels = λ b wanted. noted_label b }
