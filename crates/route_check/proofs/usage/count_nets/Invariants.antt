use Rattle.route_check.specs.kept.Counted.{AreUses}
use Rattle.route_check.proofs.usage.count_nets.Given as goal

abbrev pub invariant-loop-net : goal.invariant-loop-net
invariant-loop-net l = AreUses l.problem l.lists l.net l.counts
