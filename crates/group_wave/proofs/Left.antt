-- Which tracks of an entry still have its label.
use Rattle.std.proofs.Common.{◌≡◌, ℕ, inl, inr, sym, ap, ◌∙◌, subst, arith}
use Rattle.std.specs.Int.{bit_at}
use Rattle.std.proofs.lemmas.Bool.{cases_eq}
use Rattle.track_groups.specs.declared.group.Group.{Group}
use Rattle.track_groups.specs.Groups.{node_on}
use Rattle.wave_queue.specs.kept.Bits.{PutsBit, TakesBit}
use Rattle.wave_queue.specs.kept.Queues.{Waiting}
use Rattle.group_wave.specs.kept.WaveState.{Wave}
use Rattle.group_wave.specs.kept.Wave.{cost_at}
use Rattle.group_wave.proofs.RelaxedTracks.{no_bit}

-- of the tracks that aren't in the rest, those that have its label
pub record AreLeft (w : Wave) (is : Group) (e : Waiting) (rest tracks : ℕ) : Type 0 where
  pub of : (j : ℕ) → bit_at tracks j ≡ 1 → bit_at e.tracks j ≡ 1
  pub labels : (j : ℕ) → bit_at tracks j ≡ 1 → cost_at w (node_on is j) ≡ e.label
  pub all : (j : ℕ) → bit_at e.tracks j ≡ 1 → (bit_at rest j ≡ 1 → ⊥) → cost_at w (node_on is j) ≡ e.label → bit_at tracks j ≡ 1
  pub rest_of : (j : ℕ) → bit_at rest j ≡ 1 → bit_at e.tracks j ≡ 1

module _ (w : Wave) (is : Group) (e : Waiting) where
  pub left_first : AreLeft w is e e.tracks 0
  left_first = record {
    of = λ j one. absurd (no_bit j one);
    labels = λ j one. absurd (no_bit j one);
    all = λ j one gone same. absurd (gone one);
    rest_of = λ j one. one;
  }

  module _ (rest next tracks track : ℕ) (taken : TakesBit rest next track) (left : AreLeft w is e rest tracks) where
    still_rest : (j : ℕ) → bit_at next j ≡ 1 → bit_at rest j ≡ 1
    still_rest j one = elim (cases_eq j track) [
      | inl same ↦ absurd (let gone = taken.gone in let at = ap (bit_at next) same in omega (arith, gone, one, at))
      | inr other ↦ sym (taken.others j other) ∙ one
    ]

    -- a track that has another label
    pub left_less : (cost_at w (node_on is track) ≡ e.label → ⊥) → AreLeft w is e next tracks
    left_less lower = record {
      of = left.of;
      labels = left.labels;
      all = λ j one gone same. elim (cases_eq j track) [
        | inl here ↦ absurd (lower (subst (λ x. cost_at w (node_on is x) ≡ e.label) here same))
        | inr other ↦ left.all j one (λ h. gone (taken.others j other ∙ h)) same
      ];
      rest_of = λ j one. left.rest_of j (still_rest j one);
    }

    -- a track that has it
    pub left_more : (more : ℕ) → PutsBit tracks more track → cost_at w (node_on is track) ≡ e.label → AreLeft w is e next more
    left_more more put has = record {
      of = λ j one. elim (cases_eq j track) [
        | inl here ↦ rw here (left.rest_of track taken.was)
        | inr other ↦ left.of j (sym (put.others j other) ∙ one)
      ];
      labels = λ j one. elim (cases_eq j track) [
        | inl here ↦ rw here has
        | inr other ↦ left.labels j (sym (put.others j other) ∙ one)
      ];
      all = λ j one gone same. elim (cases_eq j track) [
        | inl here ↦ rw here put.here
        | inr other ↦ put.others j other ∙ left.all j one (λ h. gone (taken.others j other ∙ h)) same
      ];
      rest_of = λ j one. left.rest_of j (still_rest j one);
    }
