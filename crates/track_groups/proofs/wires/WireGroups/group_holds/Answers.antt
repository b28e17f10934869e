use Rattle.std.proofs.Common.{ap, arith}
use Rattle.track_groups.specs.declared.group.Group.{Group}
use Rattle.track_groups.proofs.wires.WireGroups.group_holds.Goals as goal

pub returns : goal.returns
returns c = λ _ j on. c.loop-track.invariant j (omega (arith, ap (λ (g : Group). g.tracks) c.group-tracks.ensures.wires, on, c.loop-track-test.false))
