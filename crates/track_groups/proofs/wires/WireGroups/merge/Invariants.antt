use Rattle.std.proofs.Common.{take}
use Rattle.track_groups.specs.kept.Merging.{AreMerged}
use Rattle.track_groups.proofs.wires.WireGroups.merge.Given as goal

abbrev pub invariant-loop-id : goal.invariant-loop-id
invariant-loop-id l = AreMerged l.self (take l.id-index l.ids) l.drives.items
