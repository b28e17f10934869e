use Rattle.std.proofs.Common.{◌≡◌, length}
use Rattle.wave_ground.specs.kept.Boxes.{AreFirstBoxes}
use Rattle.wave_ground.proofs.boxes.terminal_boxes.Given as goal

abbrev pub invariant-loop-node : goal.invariant-loop-node
invariant-loop-node l = record {
  count : length l.boxes.items ≡ l.node;
  boxes : AreFirstBoxes l.device l.boxes.items;
}
