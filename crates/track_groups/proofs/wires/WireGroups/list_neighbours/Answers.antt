use Rattle.std.proofs.Common.{arith}
use Rattle.track_groups.proofs.Matched.{neighbour_next}
use Rattle.track_groups.proofs.wires.WireGroups.list_neighbours.Goals as goal

pub loop-id-preserved : goal.loop-id-preserved
loop-id-preserved c = neighbour_next _ _ c.loop-id.id-index _ _ (omega arith) c.loop-id.invariant (c.in_ok-put_neighbour.ensures.added c.if-not-branch.false)
