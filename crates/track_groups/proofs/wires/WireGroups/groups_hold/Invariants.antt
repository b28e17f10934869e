use Rattle.std.proofs.Common.{◌<◌}
use Rattle.track_groups.specs.declared.group.GroupTrack.{GroupTrack}
use Rattle.track_groups.specs.Groups.{IsOn, IsTrack}
use Rattle.track_groups.proofs.wires.WireGroups.groups_hold.Given as goal

abbrev pub invariant-loop-group : goal.invariant-loop-group
invariant-loop-group l = (p : GroupTrack) → p.group < l.group → IsOn l.self.groups p → IsTrack l.device l.self p
