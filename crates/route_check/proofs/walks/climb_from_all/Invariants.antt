use Rattle.std.proofs.Common.{◌+◌}
use Rattle.route_check.specs.kept.Walks.{AreWalked}
use Rattle.route_check.proofs.Walked.{AreLeft}
use Rattle.route_check.proofs.walks.climb_from_all.Given as goal

abbrev pub invariant-loop-index : goal.invariant-loop-index
invariant-loop-index l = AreWalked l.net.source l.net.sinks.now l.listing (l.index + 1) l.walks × AreLeft l.net.source l.net.sinks.now l.listing l.index l.walks
