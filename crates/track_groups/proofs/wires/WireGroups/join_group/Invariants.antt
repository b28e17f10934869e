use Rattle.track_groups.specs.kept.Joining.{AreJoinedBefore}
use Rattle.track_groups.proofs.wires.WireGroups.join_group.Given as goal

abbrev pub invariant-loop-track : goal.invariant-loop-track
invariant-loop-track l = AreJoinedBefore l.device l.self l.group l.track l.scratch.neighbours.items l.scratch.taps.items
