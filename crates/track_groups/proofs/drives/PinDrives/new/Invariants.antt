use Rattle.std.proofs.Common.{◌≡◌, length}
use Rattle.track_groups.specs.kept.Merging.{AreDrivesBefore, OnlyPinsDriveBefore}
use Rattle.track_groups.proofs.drives.PinDrives.new.Given as goal

abbrev pub invariant-loop-id : goal.invariant-loop-id
invariant-loop-id l = record {
  before : AreDrivesBefore l.id l.device l.groups.wires l.rows;
  others : OnlyPinsDriveBefore l.id l.device l.rows;
  count : length l.rows ≡ l.id;
}
