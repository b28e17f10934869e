use Rattle.std.proofs.Common.{length, ◌+◌, ◌-◌}
use Rattle.vpr_text.proofs.Joining.{IsJoined}
use Rattle.vpr_text.proofs.split.split.Given as goal

abbrev pub invariant-loop-at : goal.invariant-loop-at
invariant-loop-at l = IsJoined l.source l.ranges.items l.entries.items l.first l.«open» l.number l.at

abbrev pub decreases-loop-at : goal.decreases-loop-at
decreases-loop-at l = length l.source + 1 - l.at
