-- Tracks that groups have.
use Rattle.std.proofs.Common.{◌≡◌, ◌<◌, List, length, inl, inr, ap, arith}
use Rattle.std.proofs.lemmas.Bool.{cases_lt}
use Rattle.std.proofs.lemmas.List.{get_or_past}
use Rattle.track_groups.specs.declared.group.Group.{Group}
use Rattle.track_groups.specs.declared.group.GroupTrack.{GroupTrack}
use Rattle.track_groups.specs.Groups.{no_group, group_at, IsOn}

-- a group that has a track is there
pub on_within : (groups : List Group) (p : GroupTrack) → IsOn groups p → p.group < length groups
unfolding group_at
on_within groups p on = elim (cases_lt p.group (length groups)) [
  | inl l ↦ l
  | inr past ↦ (let e : (group_at groups p.group).tracks ≡ 0 = ap (λ (g : Group). g.tracks) (get_or_past groups p.group no_group past) in absurd (omega arith))
]
