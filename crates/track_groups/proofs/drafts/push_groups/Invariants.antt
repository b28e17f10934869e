use Rattle.std.proofs.Common.{◌≤◌, ◌^◌, length, All}
use Rattle.track_groups.specs.kept.Fields.{IsSmall}
use Rattle.track_groups.proofs.drafts.push_groups.Given as goal

abbrev pub invariant-loop-class : goal.invariant-loop-class
invariant-loop-class l = record { small : All IsSmall l.groups.items; few : length l.groups.items ≤ 2 ^ 23 }
