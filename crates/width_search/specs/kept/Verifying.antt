-- Lesser widths that are tried after a search, one below the other.
use Rattle.std.specs.Prelude.{◌≡◌, ℕ, ◌+◌, ◌<◌, ◌≤◌, length, take, Some}
use Rattle.iteration.specs.declared.outcome.Outcome.{Outcome}
use Rattle.width_search.specs.Widths.{least_routed}
use Rattle.width_search.specs.Reports.{IsVerifiedReport, Report}

-- Widths below the least that the search found, down to the one that is `step` less and without
-- that one, were tried.
pub record IsVerifying (comes_to : ℕ → Outcome → Type 0) (start below found step : ℕ) (r : Report) : Type 0 where
  pub verified : IsVerifiedReport comes_to start below r
  pub within : verified.searched ≤ length r.trials
  pub search : least_routed (take verified.searched r.trials) ≡ Some found
  -- the least width that was routed so far
  pub last : ℕ
  pub is_last : least_routed r.trials ≡ Some last
  pub above : found < last + step
