-- A search of widths upward, trial by trial.
use Rattle.std.proofs.Common.{◌≡◌, ℕ, ◌+◌, ◌-◌, ◌<◌, ◌≤◌, min, nat_lt, Bool, true, false, if◌then◌else◌, List, [], ◌∷◌, ◌++◌, length, take, slice_get, Option, Some, None, inl, inr, refl, sym, ap, ◌∙◌, arith, length-append}
use Rattle.std.specs.List.{All}
use Rattle.std.proofs.lemmas.Bool.{cases_lt}
use Rattle.std.proofs.lemmas.Bool.Decides.{nat_tests}
use Rattle.std.proofs.lemmas.List.Elements.{All-nil, All-push}
use Rattle.iteration.specs.declared.outcome.Outcome.{Outcome}
use Rattle.iteration.specs.declared.outcome.Outcome.TheVariants.{Success, NotRouted}
use Rattle.width_search.specs.declared.report.LeastWidth.{LeastWidth}
use Rattle.width_search.specs.declared.trial.Trial.{Trial}
use Rattle.width_search.specs.Widths.{GoesUpward, IsSequence, first_upward, least_routed, next_upward, one_more, upward_after, with_routed}
use Rattle.width_search.specs.Reports.{EndsUpward, IsOfLeastWidth, IsReported, IsWidthReport, Report, is_success, with_trial}
use Rattle.width_search.proofs.Sequences.{each_more, last_more, last_of, least_more, none_yet, sequence_more}

abbrev trial_of : (width : ℕ) → Bool → Trial
trial_of width routed = record { width = width; routed = routed }

-- ---- the width of the next trial

none_else : (b : Bool) (x : Option ℕ) (w : ℕ) → (if b then None else x) ≡ Some w → (b ≡ false) × (x ≡ Some w)
none_else true x w e = absurd cc
none_else false x w e = (refl, e)

some_else : (b : Bool) (x w : ℕ) → (if b then Some x else None) ≡ Some w → (b ≡ true) × (w ≡ x)
some_else true x w e = (refl, cc)
some_else false x w e = absurd cc

first_is : (first w : ℕ) → first_upward first ≡ Some w → (w ≡ first) × (w ≤ 256)
first_is first w e =
    let is = none_else (nat_lt 256 first) (Some first) w e in
    let same : w ≡ first = cc in
    (same, grind (arith, nat_tests, is.0, same))

one_more_is : (last w : ℕ) → one_more last ≡ Some w → (w ≡ last + 1) × (w ≤ 256)
one_more_is last w e =
    let is = some_else (nat_lt last 256) (last + 1) w e in
    (is.1, grind (arith, nat_tests, is.0, is.1))

-- where a search is after so many trials, by the last of them and the least width that was routed
abbrev pub AreUpward : (first : ℕ) → (last : Option Trial) → (routed : Option ℕ) → (count : ℕ) → Type 0
AreUpward first None routed count = (routed ≡ None) × (count ≡ 0)
AreUpward first (Some last) routed count = (last.width + 1 ≡ first + count) × (routed ≡ (if last.routed then Some last.width else None))

-- what is so of the next width
record IsNext (first : ℕ) (last : Option Trial) (routed : Option ℕ) (count w : ℕ) : Type 0 where
  pub place : w ≡ first + count
  pub most : w ≤ 256
  pub none : routed ≡ None
  pub unrouted : (s : Trial) → last ≡ Some s → s.routed ≡ false

is_next : (first : ℕ) (last : Option Trial) (routed : Option ℕ) (count w : ℕ) → AreUpward first last routed count → upward_after first last ≡ Some w
    → IsNext first last routed count w
is_next first None routed count w were next =
    let is = first_is first w next in
    record { place = omega (arith, is.0, were.1); most = is.1; none = were.0; unrouted = λ s e. absurd cc }
is_next first (Some last) routed count w were next =
    let on = none_else last.routed (one_more last.width) w next in
    let is = one_more_is last.width w on.1 in
    record {
      place = omega (arith, is.0, were.0);
      most = is.1;
      none = were.1 ∙ ap (λ b. if b then Some last.width else None) on.0;
      unrouted = λ s e. let same : s ≡ last = cc in ap (λ (x : Trial). x.routed) same ∙ on.0;
    }

-- ---- how it ends

ends_at : (last : Trial) (w : ℕ) → Some w ≡ (if last.routed then Some last.width else None) → ◌≡◌ {A = Option Trial} (Some last) (Some (trial_of w true))
ends_at last w e = go last.width last.routed w e where
  go : (width : ℕ) (routed : Bool) (w : ℕ) → Some w ≡ (if routed then Some width else None) → ◌≡◌ {A = Option Trial} (Some (trial_of width routed)) (Some (trial_of w true))
  go width true w e = let same : width ≡ w = cc in ap (λ x. Some (trial_of x true)) same
  go width false w e = absurd cc

past_first : (first : ℕ) → first_upward first ≡ None → 256 < first
past_first first e = elim (cases_lt 256 first) [ inl past ↦ past | inr low ↦ absurd (grind (arith, nat_tests, e, low)) ]

past_last : (last : ℕ) → one_more last ≡ None → 256 ≤ last
past_last last e = elim (cases_lt last 256) [ inl low ↦ absurd (grind (arith, nat_tests, e, low)) | inr past ↦ past ]

past_none : (last : Trial) → None ≡ (if last.routed then Some last.width else None) → (if last.routed then None else one_more last.width) ≡ None → 256 ≤ last.width
past_none last none ended = go last.routed none ended where
  go : (routed : Bool) → None ≡ (if routed then Some last.width else None) → (if routed then None else one_more last.width) ≡ None → 256 ≤ last.width
  go true none ended = absurd cc
  go false none ended = past_last last.width ended

module _ (comes_to : ℕ → Outcome → Type 0) (first : ℕ) (trials : List Trial) (count : ℕ) where
  ended_by : (least : Option LeastWidth) (last : Option Trial) → IsOfLeastWidth comes_to trials least
      → AreUpward first last (least_routed trials) count → upward_after first last ≡ None
      → (e : last_of trials ≡ last) → (length trials ≡ count) → EndsUpward first trials least
  ended_by (Some least) None is were ended e n = absurd (let clash : Some least.width ≡ None = sym is.2 ∙ were.0 in cc)
  ended_by (Some least) (Some last) is were ended e n = e ∙ ends_at last least.width (sym is.2 ∙ were.1)
  ended_by None None is were ended e n = omega (arith, past_first first ended, were.1, n)
  ended_by None (Some last) is were ended e n = omega (arith, past_none last (sym is ∙ were.1) ended, were.0, n)

-- ---- a search

-- how many trials are left, at most
abbrev pub upward_left : (first : ℕ) → List Trial → ℕ
upward_left first trials = 257 - (first + length trials)

-- what has been tried from a first width on, each trial being what its negotiation came to
pub record IsClimb (comes_to : ℕ → Outcome → Type 0) (first : ℕ) (r : Report) : Type 0 where
  pub widths : IsSequence (next_upward first) r.trials
  pub upward : GoesUpward first r.trials
  pub within : AreUpward first (last_of r.trials) (least_routed r.trials) (length r.trials)
  pub reported : All (IsReported comes_to) r.trials
  pub least : IsOfLeastWidth comes_to r.trials r.least

module _ (comes_to : ℕ → Outcome → Type 0) (first : ℕ) where
  pub climb_begun : IsClimb comes_to first (record { trials = []; least = None })
  unfolding least_routed
  climb_begun = record {
    widths = none_yet (λ i t. next_upward first (take i []) ≡ Some t.width);
    upward = none_yet (λ i t. (t.width ≡ first + i) × (i + 1 < length {A = Trial} [] → t.routed ≡ false));
    within = (refl, refl);
    reported = All-nil (IsReported comes_to);
    least = refl;
  }

  pub climb_report : (r : Report) → IsClimb comes_to first r → next_upward first r.trials ≡ None → IsWidthReport comes_to (next_upward first) r
  climb_report r was ended = record { widths = was.widths; ended = ended; reported = was.reported; least = was.least }

  pub climb_ends : (r : Report) → IsClimb comes_to first r → next_upward first r.trials ≡ None → EndsUpward first r.trials r.least
  climb_ends r was ended = ended_by comes_to first r.trials (length r.trials) r.least (last_of r.trials) was.least was.within ended refl refl

  module _ (is_first : 1 ≤ first) (r : Report) (w : ℕ) (was : IsClimb comes_to first r) (next : next_upward first r.trials ≡ Some w) where
    is : IsNext first (last_of r.trials) (least_routed r.trials) (length r.trials) w
    is = is_next first (last_of r.trials) (least_routed r.trials) (length r.trials) w was.within next

    pub climb_width : (1 ≤ w) × (w ≤ 256)
    climb_width = (omega (arith, is_first, is.place), is.most)

    pub climb_fewer : (outcome : Outcome) → upward_left first (with_trial r w outcome).trials < upward_left first r.trials
    climb_fewer outcome = omega (arith, is.place, is.most, length-append r.trials (trial_of w (is_success outcome) ∷ []))

    before : (b : Bool) (i : ℕ) (s : Trial) → slice_get r.trials i ≡ Some s → i < length r.trials
        → (s.width ≡ first + i) × (i + 1 < length (r.trials ++ trial_of w b ∷ []) → s.routed ≡ false)
    before b i s at low =
        let was_so = was.upward i s at in (
          was_so.0,
          λ _. elim (cases_lt (i + 1) (length r.trials)) [
            | inl earlier ↦ was_so.1 earlier
            | inr last ↦
                let here : i ≡ length r.trials - 1 = omega (arith, low, last) in
                is.unrouted s (ap (slice_get r.trials) (sym here) ∙ at)
          ],
        )

    upward_more : (b : Bool) → GoesUpward first (r.trials ++ trial_of w b ∷ [])
    upward_more b =
        each_more r.trials (trial_of w b) (λ i s. (s.width ≡ first + i) × (i + 1 < length (r.trials ++ trial_of w b ∷ []) → s.routed ≡ false))
        (before b)
        (is.place, λ low. absurd (omega (arith, low, length-append r.trials (trial_of w b ∷ []))))

    some_eq : (x y : ℕ) → x ≡ y → ◌≡◌ {A = Option ℕ} (Some x) (Some y)
    some_eq x y e = ap Some e

    routed_then : (b : Bool) → with_routed (least_routed r.trials) (trial_of w b) ≡ (if b then Some w else None)
    routed_then true = ap (λ (x : Option ℕ). with_routed x (trial_of w true)) is.none ∙ some_eq (min w w) w (grind arith)
    routed_then false = is.none

    within_more : (b : Bool) → AreUpward first (last_of (r.trials ++ trial_of w b ∷ [])) (least_routed (r.trials ++ trial_of w b ∷ [])) (length (r.trials ++ trial_of w b ∷ []))
    within_more b =
        rw (last_more r.trials (trial_of w b), least_more r.trials (trial_of w b))
        (omega (arith, is.place, length-append r.trials (trial_of w b ∷ [])), routed_then b)

    least_kept : (least : Option LeastWidth) → IsOfLeastWidth comes_to r.trials least → IsOfLeastWidth comes_to (r.trials ++ trial_of w false ∷ []) least
    least_kept None none = least_more r.trials (trial_of w false) ∙ none
    least_kept (Some found) is = (is.0, is.1, least_more r.trials (trial_of w false) ∙ is.2)

    least_then : (outcome : Outcome) → comes_to w outcome → IsOfLeastWidth comes_to (with_trial r w outcome).trials (with_trial r w outcome).least
    least_then (Success routing iterations) came = (iterations, came, least_more r.trials (trial_of w true) ∙ routed_then true)
    least_then (NotRouted unrouted overused iterations) came = least_kept r.least was.least

    pub climb_more : (outcome : Outcome) → comes_to w outcome → IsClimb comes_to first (with_trial r w outcome)
    climb_more outcome came =
        let t = trial_of w (is_success outcome) in
        record {
          widths = sequence_more r.trials t (next_upward first) was.widths next;
          upward = upward_more (is_success outcome);
          within = within_more (is_success outcome);
          reported = All-push (IsReported comes_to) r.trials t was.reported (outcome, came, refl);
          least = least_then outcome came;
        }
