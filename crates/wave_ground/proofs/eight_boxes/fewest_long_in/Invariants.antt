use Rattle.std.proofs.Common.{ℕ, ◌*◌, ◌/◌, ◌<◌, ◌≤◌, length}
use Rattle.wavefront.specs.Boxes.{BoundingBox}
use Rattle.wavefront.specs.kept.Bounds.{WireShape, wires_to}
use Rattle.wave_ground.specs.kept.EightBoxes.{IsOutlook, StandsAt}
use Rattle.wave_ground.proofs.eight_boxes.fewest_long_in.Given as goal

abbrev pub invariant-loop-at : goal.invariant-loop-at
invariant-loop-at l = (wire : WireShape) (k : ℕ) (place : BoundingBox) → IsOutlook l.outlook wire → k < 8 * l.at → k < 8 * length l.eights → StandsAt l.eights k place → l.fewest / 64 ≤ wires_to place wire
