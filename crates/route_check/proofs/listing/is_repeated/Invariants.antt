use Rattle.std.proofs.Common.{◌≡◌, ℕ, ◌<◌, false}
use Rattle.route_check.specs.kept.Ends.{is_repeated_at}
use Rattle.route_check.proofs.listing.is_repeated.Given as goal

abbrev pub invariant-loop-index : goal.invariant-loop-index
invariant-loop-index l = (k : ℕ) → k < l.index → is_repeated_at l.ends k ≡ false
