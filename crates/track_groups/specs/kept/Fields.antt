-- What the fields of groups mean.
use Rattle.std.specs.Prelude.{◌≤◌, ◌<◌, ◌^◌, length, All}
use Rattle.track_groups.specs.declared.group.Group.{Group}
use Rattle.track_groups.specs.declared.wires.WireGroups.TheInside as inside
use Rattle.track_groups.specs.Groups.{Grouping}

-- numbers that fit their types also where a track is counted
pub record IsSmall (g : Group) : Type 0 where
  pub tracks : g.tracks ≤ 64
  pub base : g.base < 2 ^ 23
  pub stride : g.stride ≤ 2 ^ 23

-- what is kept in bytes fits
pub record FitsBytes (g : Group) : Type 0 where
  pub x1 : g.span.x1 ≤ 255
  pub y1 : g.span.y1 ≤ 255
  pub x2 : g.span.x2 ≤ 255
  pub y2 : g.span.y2 ≤ 255
  pub reach : g.reach ≤ 255

abbrev pub grouping_in : inside.Inside → Grouping
grouping_in t = record { first_wire = t.first_wire; groups = t.groups.items; places = t.places.items }

pub record AreSmall (t : inside.Inside) : Type 0 where
  pub few : length t.groups.items ≤ 2 ^ 23
  pub groups : All IsSmall t.groups.items
