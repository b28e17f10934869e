use Rattle.std.proofs.Common.{arith}
use Rattle.track_groups.proofs.Matched.{step_next}
use Rattle.track_groups.proofs.wires.WireGroups.matches.Goals as goal

pub loop-id-preserved : goal.loop-id-preserved
loop-id-preserved c = step_next _ _ c.args.neighbours.now _ c.loop-id.id-index c.loop-id.count _ (omega arith) c.loop-id.invariant c.in-Some.ensures
