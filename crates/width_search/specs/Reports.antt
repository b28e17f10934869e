-- The result of a search of widths (ours).
use Rattle.std.specs.Prelude.{◌≡◌, ℕ, ◌+◌, ◌-◌, ◌<◌, ◌≤◌, Bool, true, false, List, [], ◌∷◌, ◌++◌, length, take, slice_get, Option, None, Some}
use Rattle.std.specs.List.{All}
use Rattle.rr_graph.specs.Fabric.{most_tracks}
use Rattle.rr_graph.specs.Problems.{RoutingProblem}
use Rattle.node_cost.specs.Options.{RouterOptions}
use Rattle.iteration.specs.declared.outcome.Outcome.{Outcome}
use Rattle.iteration.specs.declared.outcome.Outcome.TheVariants.{Success, NotRouted}
use Rattle.net_workers.specs.Schedules.{TurnRule}
use Rattle.iteration.specs.Outcomes.{EndsNegotiation, IsOutcome}
use Rattle.width_search.specs.declared.report.LeastWidth.{LeastWidth}
use Rattle.width_search.specs.declared.trial.Trial.{Trial}
use Rattle.width_search.specs.Widths.{IsSequence, least_routed, next_width}

-- the widths that were tried, in their order, and the least that was routed, if one was, with its
-- routing
pub record Report : Type 0 where
  pub trials : List Trial
  pub least : Option LeastWidth

-- ---- a trial

abbrev pub is_success : Outcome → Bool
is_success (Success lists iterations) = true
is_success (NotRouted unrouted overused iterations) = false

-- ---- a search

-- a possible outcome of a negotiation at this width, of the problem of each width
abbrev pub Negotiates : (problem : ℕ → RoutingProblem) → RouterOptions → (workers : ℕ) → TurnRule → (width : ℕ) → Outcome → Type 0
Negotiates problem o workers allows width outcome = IsOutcome (problem width) o outcome × EndsNegotiation (problem width) o workers allows outcome

-- a trial says whether a negotiation at its width succeeded
abbrev pub IsReported : (comes_to : ℕ → Outcome → Type 0) → Trial → Type 0
IsReported comes_to t = (outcome : Outcome) × comes_to t.width outcome × (t.routed ≡ is_success outcome)

-- the routing is that of a success at the least width that was routed; there is none if no width
-- was
abbrev pub IsOfLeastWidth : (comes_to : ℕ → Outcome → Type 0) → List Trial → Option LeastWidth → Type 0
IsOfLeastWidth comes_to trials None = least_routed trials ≡ None
IsOfLeastWidth comes_to trials (Some least) =
    (iterations : ℕ) × comes_to least.width (Success least.routing iterations) × (least_routed trials ≡ Some least.width)

-- the result of a search that goes from width to width by `next`
pub record IsWidthReport (comes_to : ℕ → Outcome → Type 0) (next : List Trial → Option ℕ) (r : Report) : Type 0 where
  -- each trial is of the width that is next after those before it
  pub widths : IsSequence next r.trials
  -- and after the last one none is next
  pub ended : next r.trials ≡ None
  -- each says what its negotiation resulted in
  pub reported : All (IsReported comes_to) r.trials
  -- the routing is that of the least width that was routed
  pub least : IsOfLeastWidth comes_to r.trials r.least

-- How a search upward ends: with the routing of its last trial, or with none if no width is left.
abbrev pub EndsUpward : (first : ℕ) → List Trial → Option LeastWidth → Type 0
EndsUpward first trials (Some least) = slice_get trials (length trials - 1) ≡ Some (record { width = least.width; routed = true })
EndsUpward first trials None = most_tracks < first + length trials

-- ---- lesser widths after a search

-- the routing of a success at this width, else the one that was found before
abbrev pub found_at : (width : ℕ) → Outcome → Option LeastWidth → Option LeastWidth
found_at width (Success lists iterations) before = Some (record { width = width; routing = lists })
found_at width (NotRouted unrouted overused iterations) before = before

-- a report with one more trial
abbrev pub with_trial : Report → (width : ℕ) → Outcome → Report
with_trial r width outcome = record {
  trials = r.trials ++ record { width = width; routed = is_success outcome } ∷ [];
  least = found_at width outcome r.least;
}

-- a trial that was routed, of a width below the least routed one before it, and at most so much
-- below the least that the search found
pub record IsLesser (below : ℕ) (found before : Option ℕ) (t : Trial) : Type 0 where
  pub least : ℕ
  pub last : ℕ
  pub is_found : found ≡ Some least
  pub is_last : before ≡ Some last
  pub routed : t.routed ≡ true
  pub less : t.width < last
  pub within : least ≤ t.width + below

-- The result of a search that doubles and halves, and the lesser widths that were routed after it.
pub record IsVerifiedReport (comes_to : ℕ → Outcome → Type 0) (start below : ℕ) (r : Report) : Type 0 where
  -- this many trials are those of the search, from its first to its last
  pub searched : ℕ
  pub widths : IsSequence (next_width start) (take searched r.trials)
  pub ended : next_width start (take searched r.trials) ≡ None
  -- each later trial was routed, at a lesser width than all before it
  pub lesser : (i : ℕ) (t : Trial) → slice_get r.trials i ≡ Some t → searched ≤ i
      → IsLesser below (least_routed (take searched r.trials)) (least_routed (take i r.trials)) t
  -- each says what its negotiation resulted in
  pub reported : All (IsReported comes_to) r.trials
  -- the routing is that of the least width that any trial routed
  pub least : IsOfLeastWidth comes_to r.trials r.least
