use Rattle.std.proofs.Common.{◌≡◌, ℕ, ◌<◌, false}
use Rattle.route_tree.specs.Rows.{pairs_of}
use Rattle.route_tree.specs.kept.Ladder.{breaks_at}
use Rattle.route_tree.proofs.passes.breaks_off.Given as goal

abbrev pub invariant-loop-index : goal.invariant-loop-index
invariant-loop-index l = (k : ℕ) → k < l.index → breaks_at l.device (pairs_of l.rows) k ≡ false
