-- The ground of a search over groups.
use Rattle.std.specs.Prelude.{◌≡◌, ℕ, ◌<◌, List, true}
use Rattle.routing_problem.specs.Nodes.{is_wire_at}
use Rattle.routing_problem.specs.Problems.{is_source}
use Rattle.track_groups.specs.declared.group.Drive.{Drive}
use Rattle.track_groups.specs.declared.group.Group.{Group}
use Rattle.track_groups.specs.Joints.{Tables, IsTabled}
use Rattle.track_groups.specs.Drives.{AreDrives}
use Rattle.wavefront.specs.Space.{Space}
use Rattle.wavefront.specs.kept.Spaces.{IsSpace, node_count}

-- what one net may enter and at what cost, and the groups of the device's wires with their edges
pub record Ground : Type 0 where
  pub space : Space
  pub tables : Tables
  pub drives : List (List Drive)

abbrev pub groups_of : Ground → List Group
groups_of g = g.tables.wires.groups

-- what holds of every ground
pub record IsGround (g : Ground) : Type 0 where
  pub space : IsSpace g.space
  pub tabled : IsTabled g.space.device g.tables
  pub driven : AreDrives g.space.device g.tables.wires g.drives
  pub source : is_source g.space.device g.space.net.source ≡ true
  pub wires : (v : ℕ) → is_wire_at g.space.device v ≡ true → v < node_count g.space
