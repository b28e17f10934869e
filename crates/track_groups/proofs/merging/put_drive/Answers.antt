use Rattle.std.proofs.Common.{List, subst, arith}
use Rattle.std.proofs.Math.ListN.{set}
use Rattle.track_groups.specs.declared.group.Drive.{Drive}
use Rattle.track_groups.specs.kept.Merging.{DrivesMore}
use Rattle.track_groups.proofs.MoreDriven.{put_set}
use Rattle.track_groups.proofs.merging.put_drive.Goals as goal

pub returns-then-drive-place : goal.returns-then-drive-place
returns-then-drive-place c =
    let ds = c.loop-index.drives.items in
    let new = set ds c.loop-index.index (record { group = c.index-drive.result.now.group; tracks = c.with_bit.result }) in
    let P : List Drive → Type 0 = λ old. DrivesMore c.args.place old new in
    subst P c.loop-index.invariant (put_set ds c.args.place c.loop-index.index c.index-drive.result.now c.with_bit.result (omega arith) c.index-drive.ensures c.if-drive-place.true c.with_bit.ensures)
