use Rattle.std.proofs.Common.{◌≤◌, ◌^◌, length, All}
use Rattle.track_groups.specs.kept.Fields.{IsSmall}
use Rattle.track_groups.proofs.drafts.push_groups_of_kind.Given as goal

abbrev pub invariant-loop-x : goal.invariant-loop-x
invariant-loop-x l = record { small : All IsSmall l.groups.items; few : length l.groups.items ≤ 2 ^ 23 }

abbrev pub invariant-loop-y : goal.invariant-loop-y
invariant-loop-y l = record { small : All IsSmall l.groups.items; few : length l.groups.items ≤ 2 ^ 23 }
