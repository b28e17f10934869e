-- Boxes as they are kept, and the bounds to those around the sinks of a net.
use Rattle.std.specs.Prelude.{◌≡◌, ℕ, ◌+◌, ◌-◌, ◌<◌, ◌≤◌, List, Contains, get_or, length, max, min}
use Rattle.routing_problem.specs.Fabric.{Fabric}
use Rattle.track_groups.specs.declared.group.Group.{Group}
use Rattle.wavefront.specs.Boxes as plain
use Rattle.wavefront.specs.kept.Bounds.{WireShape}
use Rattle.wavefront.specs.kept.Bounds.{wires_to}
use Rattle.wave_ground.specs.declared.boxes.BoundingBox.{BoundingBox}

abbrev pub boxed : BoundingBox → plain.BoundingBox
boxed b = record { left = b.left; right = b.right; bottom = b.bottom; top = b.top }

-- these are the boxes of a device's first nodes
abbrev pub AreFirstBoxes : Fabric → List BoundingBox → Type 0
AreFirstBoxes f boxes = (v : ℕ) (d : BoundingBox) → v < length boxes → boxed (get_or boxes v d) ≡ plain.box_of_node f v

-- a box with this many more columns and rows on each side, as far as 32 bits hold them
pub record IsWidened (bb : ℕ) (b wide : plain.BoundingBox) : Type 0 where
  pub left : wide.left ≡ b.left - bb
  pub right : wide.right ≡ min (b.right + bb) 4294967295
  pub bottom : wide.bottom ≡ b.bottom - bb
  pub top : wide.top ≡ min (b.top + bb) 4294967295

-- the intersection of two boxes
abbrev pub box_shared : (a b : plain.BoundingBox) → plain.BoundingBox
box_shared a b = record { left = max a.left b.left; right = min a.right b.right; bottom = max a.bottom b.bottom; top = min a.top b.top }

-- a box around the sinks of a net from one place of their list to the one before another
pub record SinkBox : Type 0 where
  pub place : plain.BoundingBox
  pub from : ℕ
  pub until : ℕ

-- a lower bound on the wires from a wire to any of the boxes
abbrev pub IsLow : List SinkBox → WireShape → ℕ → Type 0
IsLow boxes wire wires = (box : SinkBox) → Contains boxes box → wires ≤ wires_to box.place wire

-- a group's wire, as far as bounds depend on it
abbrev pub wire_of : Group → WireShape
wire_of group = record { kind = group.kind; span = group.span; steps = group.reach - 1 }
