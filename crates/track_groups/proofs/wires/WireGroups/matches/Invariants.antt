use Rattle.std.proofs.Common.{take}
use Rattle.track_groups.specs.kept.Joining.{Matches}
use Rattle.track_groups.proofs.wires.WireGroups.matches.Given as goal

abbrev pub invariant-loop-id : goal.invariant-loop-id
invariant-loop-id l = Matches l.self (take l.id-index l.ids) (take l.count l.neighbours) l.track
