use Rattle.std.proofs.Common.{◌==◌}
use Rattle.std.specs.Prelude.{count_by}
use Rattle.route_check.proofs.Climbing.{IsClimbing}
use Rattle.route_check.proofs.walks.climb.Given as goal

abbrev pub invariant-loop-walks : goal.invariant-loop-walks
invariant-loop-walks l = IsClimbing l.net.source l.net.sinks.now l.listing l.walk l.start l.initial.walks l.walks l.row

abbrev pub decreases-loop-walks : goal.decreases-loop-walks
decreases-loop-walks l = count_by (λ w. w == 0) l.walks
