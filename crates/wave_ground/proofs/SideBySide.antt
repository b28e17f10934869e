-- Boxes that are also in groups of eight.
use Rattle.std.proofs.Common.{◌≡◌, ℕ, ◌-◌, ◌*◌, ◌/◌, ◌%◌, ◌<◌, ◌≤◌, ◌++◌, inl, inr, get_or, get_or-set_same, get_or-set_other, List, [], ◌∷◌, length, subst, ◌∙◌, arith, slice_set}
use Rattle.std.specs.List.{swap_remove}
use Rattle.std.proofs.lemmas.Bool.{cases_eq, cases_lt}
use Rattle.std.proofs.lemmas.List.{length-set, length_push, length-take, get_or_append_left, get_or_push, get_or-take}
use Rattle.wavefront.specs.Boxes.{BoundingBox}
use Rattle.wave_ground.specs.declared.eight_boxes.EightBoxes.{EightBoxes}
use Rattle.wave_ground.specs.declared.nearest.SinkBox as kept
use Rattle.wave_ground.specs.kept.Boxes.{boxed}
use Rattle.wave_ground.specs.kept.EightBoxes.{KeepsBox, StandsAt}
use Rattle.wave_ground.specs.kept.Nearest.{StandSideBySide}

-- a removal leaves no more boxes
pub fewer : (boxes : List kept.SinkBox) (at : ℕ) (b : kept.SinkBox) → length (swap_remove boxes at b) ≤ length boxes
fewer boxes at b =
    let last = get_or boxes (length boxes - 1) b in
    let size = length-set boxes at last in
    let most = length-take (length boxes - 1) (slice_set boxes at last) in
    omega (arith, size, most)

module _ (boxes : List kept.SinkBox) (eights : List EightBoxes) (side : StandSideBySide boxes eights) where
  -- the same boxes in groups that keep them
  pub still_there : (now : List EightBoxes) → length boxes ≤ 8 * length now → ((k : ℕ) (place : BoundingBox) → k < 8 * length eights → StandsAt eights k place → StandsAt now k place) → StandSideBySide boxes now
  still_there now fits others = record {
    fit = fits;
    stand = λ k d lt. others k (boxed (get_or boxes k d).place) (let fit = side.fit in omega (arith, fit, lt)) (side.stand k d lt);
  }

  -- one box added at the end
  pub one_behind : (b : kept.SinkBox) (now : List EightBoxes) → length boxes < 8 * length now → StandsAt now (length boxes) (boxed b.place) → ((k : ℕ) (d : kept.SinkBox) → k < length boxes → StandsAt now k (boxed (get_or boxes k d).place)) → StandSideBySide (boxes ++ b ∷ []) now
  one_behind b now room put others = record {
    fit = let size = length_push boxes b in omega (arith, size, room);
    stand = λ k d lt. elim (cases_lt k (length boxes)) [
      | inl before ↦ rw (get_or_append_left boxes (b ∷ []) d k before) (others k d before)
      | inr after ↦
          let here : length boxes ≡ k = (let size = length_push boxes b in omega (arith, size, lt, after)) in
          rw (get_or_push boxes b d k here) (subst (λ i. StandsAt now i (boxed b.place)) here put)
    ];
  }

  -- one box replaced
  pub one_put : (at : ℕ) (b : kept.SinkBox) (now : List EightBoxes) → at < length boxes → length now ≡ length eights → StandsAt now at (boxed b.place) → ((k : ℕ) (d : kept.SinkBox) → (k ≡ at → ⊥) → k < length boxes → StandsAt now k (boxed (get_or boxes k d).place)) → StandSideBySide (slice_set boxes at b) now
  one_put at b now within same put others = record {
    fit = let size = length-set boxes at b in let fit = side.fit in omega (arith, size, same, fit);
    stand = λ k d lt. elim (cases_eq k at) [
      | inl here ↦ rw (here, get_or-set_same boxes at b d within) put
      | inr ne ↦ rw (get_or-set_other boxes at k b d ne) (others k d ne (let size = length-set boxes at b in omega (arith, size, lt)))
    ];
  }

  -- one box removed, and the last in its place
  pub one_gone : (at : ℕ) (b : kept.SinkBox) (now : List EightBoxes) → at < length boxes → length now ≡ length eights → ((d : kept.SinkBox) → at < length (swap_remove boxes at b) → StandsAt now at (boxed (get_or (swap_remove boxes at b) at d).place)) → ((k : ℕ) (d : kept.SinkBox) → (k ≡ at → ⊥) → k < length (swap_remove boxes at b) → StandsAt now k (boxed (get_or boxes k d).place)) → StandSideBySide (swap_remove boxes at b) now
  one_gone at b now within same put others = record {
    fit = let size = fewer boxes at b in let fit = side.fit in omega (arith, size, same, fit);
    stand = λ k d lt. elim (cases_eq k at) [
      | inl here ↦ rw here (put d (let less = lt in omega (arith, less, here)))
      | inr ne ↦ rw (before at b k d ne lt) (others k d ne lt)
    ];
  }
    where
      before : (at : ℕ) (b : kept.SinkBox) (k : ℕ) (d : kept.SinkBox) → (k ≡ at → ⊥) → k < length (swap_remove boxes at b) → get_or (swap_remove boxes at b) k d ≡ get_or boxes k d
      before at b k d ne lt =
          let last = get_or boxes (length boxes - 1) b in
          let most = length-take (length boxes - 1) (slice_set boxes at last) in
          get_or-take (length boxes - 1) (slice_set boxes at last) k d (omega (arith, most, lt)) ∙ get_or-set_other boxes at k last d ne

-- a box put in a place leaves the others
pub elsewhere : (eights : List EightBoxes) (b : EightBoxes) (at other : ℕ) (place : BoundingBox) → at / 8 < length eights → (other ≡ at → ⊥)
    → ((other % 8 ≡ at % 8 → ⊥) → ((e : EightBoxes) → KeepsBox (get_or eights (at / 8) e) (other % 8) place) → KeepsBox b (other % 8) place)
    → StandsAt eights other place → StandsAt (slice_set eights (at / 8) b) other place
elsewhere eights b at other place within ne beside stands e = elim (cases_eq (other / 8) (at / 8)) [
  | inl here ↦ rw (here, get_or-set_same eights (at / 8) b e within) (beside (λ same. ne (omega (arith, same, here))) (subst (λ i. (e : EightBoxes) → KeepsBox (get_or eights i e) (other % 8) place) here stands))
  | inr apart ↦ rw (get_or-set_other eights (at / 8) (other / 8) b e apart) (stands e)
]
