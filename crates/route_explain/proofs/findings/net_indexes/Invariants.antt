use Rattle.route_explain.specs.kept.Findings.{AreIndexes}
use Rattle.route_explain.proofs.findings.net_indexes.Given as goal

-- the nets so far have their indexes
abbrev pub invariant-loop-net : goal.invariant-loop-net
invariant-loop-net l = AreIndexes l.problem l.lists l.faults l.net l.indexes.items
