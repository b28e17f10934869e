-- The tables that all searches over a device share (ours; the device is that of `routing_problem`,
-- its groups those of `track_groups`).
use Rattle.std.specs.Prelude.{List}
use Rattle.routing_problem.specs.Fabric.{Fabric}
use Rattle.track_groups.specs.declared.group.Drive.{Drive}
use Rattle.track_groups.specs.Drives.{AreDrives}
use Rattle.track_groups.specs.Joints.{Tables, IsTabled}
use Rattle.wave_ground.specs.declared.boxes.BoundingBox.{BoundingBox}
use Rattle.wave_ground.specs.kept.Boxes.{AreFirstBoxes}

-- the groups of a device's wires with their edges, what output pins drive, and boxes of its first
-- nodes
pub record DeviceTables : Type 0 where
  pub groups : Tables
  pub drives : List (List Drive)
  pub boxes : List BoundingBox

-- the tables are those of a device
pub record AreTablesOf (f : Fabric) (t : DeviceTables) : Type 0 where
  pub groups : IsTabled f t.groups
  pub drives : AreDrives f t.groups.wires t.drives
  pub boxes : AreFirstBoxes f t.boxes
