use Rattle.std.proofs.Common.{◌≡◌, [], get_or}
use Rattle.group_wave.proofs.Outputs.{IsDriving}
use Rattle.group_wave.proofs.wave.Wave.drive.Given as goal

abbrev pub invariant-loop-drive : goal.invariant-loop-drive
invariant-loop-drive g l = record {
  same : l.drives ≡ get_or l.ground.drives l.pin [];
  driving : IsDriving l.ground l.pin l.fn.self l.self (g.K.Key.value l.label) l.drive-index;
}
