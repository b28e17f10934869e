-- What the fields of groups in bytes mean.
use Rattle.track_groups.specs.declared.group.Group.{Group}
use Rattle.track_groups.specs.declared.packed.PackedGroup.TheInside as inside

abbrev pub group_in : inside.Inside → Group
group_in p =
    record { kind = p.kind; span = record { x1 = p.x1; y1 = p.y1; x2 = p.x2; y2 = p.y2 }; reach = p.reach; base = p.base; stride = p.stride; tracks = p.tracks }
