use Rattle.std.proofs.Common.{◌≡◌, ℕ, ◌<◌, not, false, get_or}
use Rattle.routing_problem.specs.Edges.{edge_between}
use Rattle.route_tree.specs.Rows.{pairs_of}
use Rattle.route_tree.proofs.passes.lacks_switch.Given as goal

abbrev pub invariant-loop-index : goal.invariant-loop-index
invariant-loop-index l =
    (l.finder ≡ l.device)
    × ((k : ℕ) → k < l.index → not (edge_between l.device (get_or (pairs_of l.rows) k (0, 0)).0 (get_or (pairs_of l.rows) k (0, 0)).1) ≡ false)
