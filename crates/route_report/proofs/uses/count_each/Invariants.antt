use Rattle.std.proofs.Common.{take}
use Rattle.route_tree.specs.kept.Counting.{Counts}
use Rattle.route_report.proofs.uses.count_each.Given as goal

abbrev pub invariant-loop-node : goal.invariant-loop-node
invariant-loop-node l = Counts l.fn.counts (take l.node-index l.nodes) l.counts
