use Rattle.std.proofs.Common.{ap, arith, length}
use Rattle.group_wave.proofs.Outputs.{driving_all, driving_first, driving_more}
use Rattle.group_wave.proofs.wave.Wave.drive.Goals as goal

pub loop-drive-init : goal.loop-drive-init
loop-drive-init g c = record { same = c.drives-drives.ensures; driving = driving_first c.args.ground.now c.requires.ground c.args.pin c.requires.pin c.args.self.now _ c.requires.wave }

pub loop-drive-preserved : goal.loop-drive-preserved
loop-drive-preserved g c = record {
  same = c.loop-drive.invariant.same;
  driving = driving_more c.args.ground.now c.requires.ground c.args.pin c.requires.pin c.args.self.now c.loop-drive.self c.drive_tracks.new.self _ c.loop-drive.drive-index _ c.loop-drive.invariant.driving c.in_ok-drive_tracks.ensures.spreads (rw c.drives-drives.ensures at c.in_ok-drive_tracks.ensures.took);
}

pub returns-clause-went : goal.returns-clause-went
returns-clause-went g c = driving_all c.args.ground.now c.requires.ground c.args.pin c.requires.pin c.args.self.now c.loop-drive.self _ c.loop-drive.drive-index (let all = ap length c.drives-drives.ensures in omega (arith, all, c.loop-drive-test.false)) c.loop-drive.invariant.driving
