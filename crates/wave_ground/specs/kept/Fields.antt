-- What the fields of a search's ground mean.
use Rattle.std.specs.Prelude.{◌≡◌, ◌<◌, ◌≤◌, length}
use Rattle.node_cost.specs.Options.{greatest_present}
use Rattle.routing_problem.specs.Nodes.{node_count_of, wire_capacity}
use Rattle.routing_problem.specs.Problems.{net_in}
use Rattle.wavefront.specs.Boxes.{box_of_net}
use Rattle.wavefront.specs.Growth.{space_of}
use Rattle.wave_ground.specs.declared.ground.Ground.TheInside.{Inside}
use Rattle.wave_ground.specs.kept.Boxes.{AreFirstBoxes, IsWidened, boxed}
use Rattle.wave_ground.specs.kept.Grounds.{Ground}

abbrev pub ground_inside : Inside → Ground
ground_inside g = record { space = space_of g.problem.now g.net g.view g.present g.bb; tables = g.groups.now; drives = g.drives.now }

-- the net exists, the view, the boxes and the room of wires are of the device, and the box is that
-- of the net
pub record IsGroundInside (g : Inside) : Type 0 where
  pub net : g.net < length g.problem.now.nets
  pub view : length g.view ≡ node_count_of g.problem.now.device
  pub present : g.present ≤ greatest_present
  pub boxes : AreFirstBoxes g.problem.now.device g.boxes.now
  pub inside : IsWidened g.bb (box_of_net g.problem.now.device (net_in g.problem.now.nets g.net)) (boxed g.inside)
  pub room : g.room ≡ wire_capacity g.problem.now.device.mode g.problem.now.device.width
  pub some : 1 ≤ g.room
