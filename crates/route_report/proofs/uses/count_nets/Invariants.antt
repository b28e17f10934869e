use Rattle.route_report.specs.kept.Counting.{AreUses}
use Rattle.route_report.proofs.uses.count_nets.Given as goal

abbrev pub invariant-loop-net : goal.invariant-loop-net
invariant-loop-net l = AreUses l.problem l.lists l.net l.counts
