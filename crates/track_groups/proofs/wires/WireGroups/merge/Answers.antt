use Rattle.std.proofs.Common.{arith}
use Rattle.track_groups.proofs.MoreDriven.{merged_next}
use Rattle.track_groups.proofs.wires.WireGroups.merge.Goals as goal

pub loop-id-preserved : goal.loop-id-preserved
loop-id-preserved c =
    merged_next c.requires.0 c.args.self.now c.requires.1 c.args.ids.now c.loop-id.id-index _ _ (omega arith) c.loop-id.invariant c.in_ok-put_node.ensures
