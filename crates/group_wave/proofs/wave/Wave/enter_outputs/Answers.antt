use Rattle.group_wave.proofs.Outputs.{entering_all, entering_more}
use Rattle.group_wave.proofs.wave.Wave.enter_outputs.Goals as goal

pub loop-pin-preserved : goal.loop-pin-preserved
loop-pin-preserved g c = entering_more c.args.ground.now c.args.pins.now c.args.self.now c.loop-pin.self c.enter_output.new.self c.loop-pin.pin-index c.loop-pin.invariant c.in_ok-enter_output.ensures

pub returns-clause-went : goal.returns-clause-went
returns-clause-went g c = entering_all c.args.ground.now c.args.pins.now c.args.self.now c.loop-pin.self c.loop-pin.pin-index c.loop-pin-test.false c.loop-pin.invariant
