use Rattle.std.proofs.Common.{◌≡◌, ◌≤◌, ◌==◌, take, count_by}
use Rattle.route_tree.specs.Rows.{pairs_of}
use Rattle.route_tree.proofs.passes.count_leaving.Given as goal

abbrev pub invariant-loop-index : goal.invariant-loop-index
invariant-loop-index l = (l.count ≡ count_by (λ p. p.0 == l.source) (take l.index (pairs_of l.rows))) × (l.count ≤ l.index)
