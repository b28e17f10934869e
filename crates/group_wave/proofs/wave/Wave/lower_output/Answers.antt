use Rattle.std.proofs.Common.{◌≤◌, arith, rules}
use Rattle.group_wave.specs.kept.WaveState.{FAR}
use Rattle.group_wave.proofs.Outputs.{output_kind, output_lowered, output_wave}
use Rattle.group_wave.proofs.Starts.{on_ok_two}
use Rattle.group_wave.proofs.wave.Wave.lower_output.Goals as goal

pub drive-requires-clause-wave : goal.drive-requires-clause-wave
drive-requires-clause-wave g c = output_wave c.args.ground.now c.requires.ground c.args.self.now c.requires.wave c.args.pin c.requires.start c.requires.edge c.set.new.self _ (rw c.source.ensures at c.in_ok-set.ensures.set) c.requires.inside c.requires.less (let narrow : g.K.Key.greatest ≤ FAR = search rules in omega (arith, c.requires.fits, narrow)) c.requires.cost

pub drive-requires-clause-pin : goal.drive-requires-clause-pin
drive-requires-clause-pin g c = output_kind c.args.ground.now c.requires.ground c.args.self.now c.requires.wave c.args.pin c.requires.start c.requires.edge

pub returns : goal.returns
returns g c = on_ok_two c.drive.result (λ spreads went. output_lowered c.args.ground.now c.requires.ground c.args.self.now c.requires.wave c.args.pin c.requires.start c.requires.edge c.set.new.self _ (rw c.source.ensures at c.in_ok-set.ensures.set) c.requires.inside c.requires.less (let narrow : g.K.Key.greatest ≤ FAR = search rules in omega (arith, c.requires.fits, narrow)) c.requires.cost c.drive.new.self c.in_ok-set.ensures.best spreads went) c.drive.ensures.spreads c.drive.ensures.went
