use Rattle.std.proofs.Common.{◌≡◌, ◌-◌, false, length, drop}
use Rattle.route_tree.specs.Rows.{pairs_of}
use Rattle.route_tree.specs.kept.Ladder.{has_dead_end}
use Rattle.route_tree.proofs.DeadEnds.{AreAfter}
use Rattle.route_tree.proofs.passes.has_dead_end.Given as goal

abbrev pub invariant-loop-behind : goal.invariant-loop-behind
invariant-loop-behind l =
    AreAfter l.stamps l.sinks (drop (l.count - l.behind) (pairs_of l.rows))
    × (has_dead_end l.sinks (drop (l.count - l.behind) (pairs_of l.rows)) ≡ false)
    × (length l.stamps ≡ length l.initial.stamps)
