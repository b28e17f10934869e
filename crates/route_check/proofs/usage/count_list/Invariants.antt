use Rattle.route_tree.specs.kept.Counting.{Counts}
use Rattle.route_check.proofs.Counting.{nodes_to}
use Rattle.route_check.proofs.usage.count_list.Given as goal

abbrev pub invariant-loop-pair : goal.invariant-loop-pair
invariant-loop-pair l = Counts l.fn.counts (nodes_to l.source l.pairs l.pair-index) l.counts
