-- Lesser widths after a search, trial by trial.
use Rattle.std.proofs.Common.{◌≡◌, ℕ, ◌+◌, ◌<◌, ◌≤◌, min, Bool, true, List, [], ◌∷◌, ◌++◌, length, take, slice_get, get_or, Option, Some, inl, inr, refl, sym, ap, subst, ◌∙◌, arith, length-append}
use Rattle.std.proofs.Math.Seq.{take-append_seam}
use Rattle.std.proofs.lemmas.Bool.{cases_lt}
use Rattle.std.proofs.lemmas.List.{take-append-le, take_all}
use Rattle.std.proofs.lemmas.List.Elements.{All-push}
use Rattle.std.proofs.lemmas.Option.{slice_get-get_or, slice_get_within}
use Rattle.iteration.specs.declared.outcome.Outcome.{Outcome}
use Rattle.iteration.specs.declared.outcome.Outcome.TheVariants.{Success, NotRouted}
use Rattle.width_search.specs.declared.report.LeastWidth.{LeastWidth}
use Rattle.width_search.specs.declared.trial.Trial.{Trial}
use Rattle.width_search.specs.Widths.{IsSequence, least_routed, next_width, with_routed}
use Rattle.width_search.specs.Reports.{IsLesser, IsOfLeastWidth, IsReported, IsVerifiedReport, IsWidthReport, Report, is_success, with_trial}
use Rattle.width_search.specs.kept.Verifying.{IsVerifying}
use Rattle.width_search.proofs.Sequences.{each_more, least_more}

abbrev trial_of : (width : ℕ) → Bool → Trial
trial_of width routed = record { width = width; routed = routed }

same_width : (x y : ℕ) → ◌≡◌ {A = Option ℕ} (Some x) (Some y) → x ≡ y
same_width x y e = cc

module _ (comes_to : ℕ → Outcome → Type 0) (start below : ℕ) where
  -- what a search comes to is verified with no later trial
  pub verified_begun : (r : Report) → IsWidthReport comes_to (next_width start) r → IsVerifiedReport comes_to start below r
  verified_begun r was =
      let all = take_all (length r.trials) r.trials (omega arith) in
      record {
        searched = length r.trials;
        widths = subst (IsSequence (next_width start)) (sym all) was.widths;
        ended = ap (next_width start) all ∙ was.ended;
        lesser = λ i t at past. absurd (omega (arith, past, slice_get_within r.trials i t at));
        reported = was.reported;
        least = was.least;
      }

  least_is : (r : Report) (least : LeastWidth) → IsOfLeastWidth comes_to r.trials r.least → r.least ≡ Some least → least_routed r.trials ≡ Some least.width
  least_is r least is e = let of_it = subst (IsOfLeastWidth comes_to r.trials) e is in of_it.2

  pub verifying_begun : (r : Report) (least : LeastWidth) → IsWidthReport comes_to (next_width start) r → r.least ≡ Some least → IsVerifying comes_to start below least.width 1 r
  unfolding verified_begun
  verifying_begun r least was e =
      let found = least_is r least was.least e in
      record {
        verified = verified_begun r was;
        within = omega arith;
        search = ap least_routed (take_all (length r.trials) r.trials (omega arith)) ∙ found;
        last = least.width;
        is_last = found;
        above = omega arith;
      }

  -- a width that was tried and not routed
  pub verifying_past : {found step : ℕ} {r : Report} → IsVerifying comes_to start below found step r → IsVerifying comes_to start below found (step + 1) r
  verifying_past {found} {step} {r} was = record {
    verified = was.verified;
    within = was.within;
    search = was.search;
    last = was.last;
    is_last = was.is_last;
    above = omega (arith, was.above);
  }

  -- a width that was tried and routed
  module _ (found step w : ℕ) (r : Report) (was : IsVerifying comes_to start below found step r) (is_step : 1 ≤ step) (at_most : step ≤ below) (here : w + step ≡ found) where
    abbrev verified : IsVerifiedReport comes_to start below r
    verified = was.verified

    abbrev more : List Trial
    more = r.trials ++ trial_of w true ∷ []

    -- the trials of the search are the same
    front : take verified.searched more ≡ take verified.searched r.trials
    front = take-append-le verified.searched r.trials (trial_of w true ∷ []) was.within

    less : w < was.last
    less = omega (arith, here, was.above)

    lesser_more : (i : ℕ) (t : Trial) → slice_get more i ≡ Some t → verified.searched ≤ i
        → IsLesser below (least_routed (take verified.searched more)) (least_routed (take i more)) t
    lesser_more =
        each_more r.trials (trial_of w true)
        (λ i t. verified.searched ≤ i → IsLesser below (least_routed (take verified.searched more)) (least_routed (take i more)) t)
        (λ i t at low past. rw (front, take-append-le i r.trials (trial_of w true ∷ []) (omega (arith, low))) (verified.lesser i t at past))
        (λ past. rw (front, take-append_seam r.trials (trial_of w true ∷ [])) (record {
          least = found;
          last = was.last;
          is_found = was.search;
          is_last = was.is_last;
          routed = refl;
          less = less;
          within = omega (arith, here, at_most);
        }))

    some_eq : (x y : ℕ) → x ≡ y → ◌≡◌ {A = Option ℕ} (Some x) (Some y)
    some_eq x y e = ap Some e

    routed_more : least_routed more ≡ Some w
    routed_more = least_more r.trials (trial_of w true) ∙ (ap (λ (x : Option ℕ). with_routed x (trial_of w true)) was.is_last ∙ some_eq (min was.last w) w (grind (arith, less)))

    pub verifying_more : (outcome : Outcome) → comes_to w outcome → is_success outcome ≡ true → IsVerifying comes_to start below found (step + 1) (with_trial r w outcome)
    verifying_more (Success routing iterations) came success = record {
      verified = record {
        searched = verified.searched;
        widths = subst (IsSequence (next_width start)) (sym front) verified.widths;
        ended = ap (next_width start) front ∙ verified.ended;
        lesser = lesser_more;
        reported = All-push (IsReported comes_to) r.trials (trial_of w true) verified.reported (Success routing iterations, came, refl);
        least = (iterations, came, routed_more);
      };
      within = omega (arith, was.within, length-append r.trials (trial_of w true ∷ []));
      search = ap least_routed front ∙ was.search;
      last = w;
      is_last = routed_more;
      above = omega (arith, here);
    }
    verifying_more (NotRouted unrouted overused iterations) came success = absurd cc

-- where no lesser width may be tried, there is no later trial
module _ (comes_to : ℕ → Outcome → Type 0) (start : ℕ) (r : Report) (v : IsVerifiedReport comes_to start 0 r) where
  -- a trial right after the search would be less than itself
  no_next : (t : Trial) → slice_get r.trials v.searched ≡ Some t → length r.trials ≤ v.searched
  no_next t at =
      let is = v.lesser v.searched t at (omega arith) in
      let same : is.least ≡ is.last = same_width is.least is.last (sym is.is_found ∙ is.is_last) in
      absurd (omega (arith, is.less, is.within, same))

  none_later : length r.trials ≤ v.searched
  none_later = elim (cases_lt v.searched (length r.trials)) [
    | inl low ↦ no_next (get_or r.trials v.searched (trial_of 0 true)) (slice_get-get_or r.trials v.searched (trial_of 0 true) low)
    | inr past ↦ past
  ]

  pub verified_alone : IsWidthReport comes_to (next_width start) r
  verified_alone =
      let all = take_all v.searched r.trials none_later in
      record {
        widths = subst (IsSequence (next_width start)) all v.widths;
        ended = ap (next_width start) (sym all) ∙ v.ended;
        reported = v.reported;
        least = v.least;
      }
