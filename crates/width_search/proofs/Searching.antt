-- A search of widths, trial by trial.
use Rattle.std.proofs.Common.{◌≡◌, ℕ, ◌+◌, ◌-◌, ◌*◌, ◌/◌, ◌<◌, ◌≤◌, min, nat_lt, Bool, true, false, if◌then◌else◌, List, [], ◌∷◌, ◌++◌, take, Option, Some, None, refl, ap, ◌∙◌, arith}
use Rattle.std.specs.List.{All}
use Rattle.std.proofs.lemmas.Bool.Decides.{nat_tests}
use Rattle.std.proofs.lemmas.List.Elements.{All-nil, All-push}
use Rattle.iteration.specs.declared.outcome.Outcome.{Outcome}
use Rattle.iteration.specs.declared.outcome.Outcome.TheVariants.{Success, NotRouted}
use Rattle.width_search.specs.declared.report.LeastWidth.{LeastWidth}
use Rattle.width_search.specs.declared.trial.Trial.{Trial}
use Rattle.width_search.specs.Widths.{IsSequence, greatest_unrouted, least_routed, next_width, width_after, with_routed, with_unrouted}
use Rattle.width_search.specs.Reports.{IsOfLeastWidth, IsReported, Report, is_success, with_trial}
use Rattle.width_search.proofs.Sequences.{greatest_more, last_more, last_of, least_more, none_yet, sequence_more}

abbrev trial_of : (width : ℕ) → Bool → Trial
trial_of width routed = record { width = width; routed = routed }

-- ---- the width of the next trial

abbrev IsWidth : ℕ → Type 0
IsWidth width = (1 ≤ width) × (width ≤ 256)

-- the widths from which the next one is found
abbrev pub AreWithin : (last : Option Trial) → (routed : Option ℕ) → Type 0
AreWithin None routed = routed ≡ None
AreWithin (Some last) None = IsWidth last.width
AreWithin (Some last) (Some routed) = IsWidth routed

some_if : (b : Bool) (x w : ℕ) → (if b then Some x else None) ≡ Some w → (b ≡ true) × (w ≡ x)
some_if true x w e = (refl, cc)
some_if false x w e = absurd cc

start_is : (start w : ℕ) → ◌≡◌ {A = Option ℕ} (Some start) (Some w) → w ≡ start
start_is start w e = cc

doubled_is : (last w : ℕ) → 1 ≤ last → (if nat_lt last 256 then Some (min (2 * last) 256) else None) ≡ Some w → (last < 256) × (last < w) × (w ≤ 256)
doubled_is last w some next = let is = some_if (nat_lt last 256) (min (2 * last) 256) w next in grind (arith, nat_tests, is.0, is.1)

halved_is : (unrouted routed w : ℕ) → (if nat_lt 1 (routed - unrouted) then Some ((unrouted + routed) / 2) else None) ≡ Some w → (unrouted < w) × (w < routed)
halved_is unrouted routed w next =
    let is = some_if (nat_lt 1 (routed - unrouted)) ((unrouted + routed) / 2) w next in grind (arith, nat_tests, is.0, is.1)

-- how far a search is from its end
abbrev left_after : Option Trial → (routed : Option ℕ) → (unrouted : ℕ) → ℕ
left_after None routed unrouted = 513
left_after (Some last) None unrouted = 512 - last.width
left_after (Some last) (Some routed) unrouted = routed - unrouted

-- what is so of the next width, whether it is routed or not
record IsNext (last : Option Trial) (routed : Option ℕ) (unrouted w : ℕ) : Type 0 where
  pub is_width : IsWidth w
  pub least : with_routed routed (trial_of w true) ≡ Some w
  pub within : (b : Bool) → AreWithin (Some (trial_of w b)) (with_routed routed (trial_of w b))
  pub fewer : (b : Bool) → left_after (Some (trial_of w b)) (with_routed routed (trial_of w b)) (with_unrouted unrouted (trial_of w b)) < left_after last routed unrouted

some_eq : (x y : ℕ) → x ≡ y → ◌≡◌ {A = Option ℕ} (Some x) (Some y)
some_eq x y e = ap Some e

within_first : (w : ℕ) → IsWidth w → (b : Bool) → AreWithin (Some (trial_of w b)) (with_routed None (trial_of w b))
within_first w is true = (omega (arith, is.0), omega (arith, is.1))
within_first w is false = is

within_then : (routed w : ℕ) → IsWidth w → IsWidth routed → (b : Bool) → AreWithin (Some (trial_of w b)) (with_routed (Some routed) (trial_of w b))
within_then routed w is was true = (grind (arith, is.0, was.0), grind (arith, is.1))
within_then routed w is was false = was

fewer_start : (unrouted w : ℕ) → IsWidth w → (b : Bool)
    → left_after (Some (trial_of w b)) (with_routed None (trial_of w b)) (with_unrouted unrouted (trial_of w b)) < 513
fewer_start unrouted w is true = grind (arith, is.1)
fewer_start unrouted w is false = grind (arith, is.1)

fewer_doubled : (last unrouted w : ℕ) → last < 256 → last < w → w ≤ 256 → (b : Bool)
    → left_after (Some (trial_of w b)) (with_routed None (trial_of w b)) (with_unrouted unrouted (trial_of w b)) < 512 - last
fewer_doubled last unrouted w few more most true = grind (arith, few, most)
fewer_doubled last unrouted w few more most false = grind (arith, few, more)

fewer_halved : (routed unrouted w : ℕ) → unrouted < w → w < routed → (b : Bool)
    → left_after (Some (trial_of w b)) (with_routed (Some routed) (trial_of w b)) (with_unrouted unrouted (trial_of w b)) < routed - unrouted
fewer_halved routed unrouted w low high true = grind (arith, low, high)
fewer_halved routed unrouted w low high false = grind (arith, low, high)

module _ (start : ℕ) (is_start : IsWidth start) where
  is_next : (last : Option Trial) (routed : Option ℕ) (unrouted w : ℕ) → AreWithin last routed → width_after start last routed unrouted ≡ Some w
      → IsNext last routed unrouted w
  is_next None None unrouted w were next =
      let is = start_is start w next in
      let width : IsWidth w = (omega (arith, is, is_start.0), omega (arith, is, is_start.1)) in
      record { is_width = width; least = some_eq (min w w) w (grind arith); within = within_first w width; fewer = fewer_start unrouted w width }
  is_next None (Some routed) unrouted w were next = absurd cc
  is_next (Some last) None unrouted w were next =
      let is = doubled_is last.width w were.0 next in
      let width : IsWidth w = (omega (arith, is.1), is.2) in
      record {
        is_width = width;
        least = some_eq (min w w) w (grind arith);
        within = within_first w width;
        fewer = fewer_doubled last.width unrouted w is.0 is.1 is.2;
      }
  is_next (Some last) (Some routed) unrouted w were next =
      let is = halved_is unrouted routed w next in
      let width : IsWidth w = (omega (arith, is.0), omega (arith, is.1, were.1)) in
      record {
        is_width = width;
        least = some_eq (min routed w) w (grind (arith, is.1));
        within = within_then routed w width were;
        fewer = fewer_halved routed unrouted w is.0 is.1;
      }

-- ---- a search

-- how many trials are left, at most
abbrev pub trials_left : List Trial → ℕ
trials_left trials = left_after (last_of trials) (least_routed trials) (greatest_unrouted trials)

-- what has been tried from a start on, each trial being what its negotiation came to
pub record IsSearch (comes_to : ℕ → Outcome → Type 0) (start : ℕ) (r : Report) : Type 0 where
  pub widths : IsSequence (next_width start) r.trials
  pub within : AreWithin (last_of r.trials) (least_routed r.trials)
  pub reported : All (IsReported comes_to) r.trials
  pub least : IsOfLeastWidth comes_to r.trials r.least

module _ (comes_to : ℕ → Outcome → Type 0) (start : ℕ) where
  pub search_begun : IsSearch comes_to start (record { trials = []; least = None })
  unfolding least_routed
  search_begun = record { widths = none_yet (λ i t. next_width start (take i []) ≡ Some t.width); within = refl; reported = All-nil (IsReported comes_to); least = refl }

  module _ (is_start : IsWidth start) (r : Report) (w : ℕ) (was : IsSearch comes_to start r) (next : next_width start r.trials ≡ Some w) where
    is : IsNext (last_of r.trials) (least_routed r.trials) (greatest_unrouted r.trials) w
    is = is_next start is_start (last_of r.trials) (least_routed r.trials) (greatest_unrouted r.trials) w was.within next

    pub width_within : IsWidth w
    width_within = is.is_width

    pub fewer_trials : (outcome : Outcome) → trials_left (with_trial r w outcome).trials < trials_left r.trials
    fewer_trials outcome =
        let t = trial_of w (is_success outcome) in
        rw (last_more r.trials t, least_more r.trials t, greatest_more r.trials t) (is.fewer (is_success outcome))

    least_kept : (least : Option LeastWidth) → IsOfLeastWidth comes_to r.trials least → IsOfLeastWidth comes_to (r.trials ++ trial_of w false ∷ []) least
    least_kept None none = least_more r.trials (trial_of w false) ∙ none
    least_kept (Some found) is = (is.0, is.1, least_more r.trials (trial_of w false) ∙ is.2)

    least_then : (outcome : Outcome) → comes_to w outcome → IsOfLeastWidth comes_to (with_trial r w outcome).trials (with_trial r w outcome).least
    least_then (Success routing iterations) came = (iterations, came, least_more r.trials (trial_of w true) ∙ is.least)
    least_then (NotRouted unrouted overused iterations) came = least_kept r.least was.least

    pub search_more : (outcome : Outcome) → comes_to w outcome → IsSearch comes_to start (with_trial r w outcome)
    search_more outcome came =
        let t = trial_of w (is_success outcome) in
        record {
          widths = sequence_more r.trials t (next_width start) was.widths next;
          within = rw (last_more r.trials t, least_more r.trials t) (is.within (is_success outcome));
          reported = All-push (IsReported comes_to) r.trials t was.reported (outcome, came, refl);
          least = least_then outcome came;
        }
