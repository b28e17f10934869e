use Rattle.std.proofs.Common.{◌≡◌, length}
use Rattle.track_groups.specs.kept.Joining.{AreTold}
use Rattle.track_groups.proofs.wires.WireGroups.joints.Given as goal

abbrev pub invariant-loop-group : goal.invariant-loop-group
invariant-loop-group l = record {
  told : AreTold l.group l.device l.self l.joints.neighbours l.joints.taps;
  neighbours : length l.joints.neighbours ≡ l.group;
  taps : length l.joints.taps ≡ l.group;
}
