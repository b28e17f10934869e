use Rattle.std.proofs.Common.{ap, arith, length}
use Rattle.group_wave.proofs.Aimed.{aiming_first, aiming_more}
use Rattle.group_wave.proofs.wave.Wave.aim.Goals as goal

pub loop-from-init : goal.loop-from-init
loop-from-init g c = aiming_first c.args.ground.now c.args.self.now c.clear_boxes.new.self c.clear_boxes.ensures

pub loop-from-preserved : goal.loop-from-preserved
loop-from-preserved g c =
    let size = ap (λ xs. length xs) c.sinks-sinks.ensures in
    aiming_more c.args.ground.now c.args.self.now c.loop-from.self c.surround.new.self c.loop-from.from _ c.loop-from.invariant (omega (arith, size, c.min.ensures, c.loop-from-test.true)) c.in_ok-surround.ensures.serves
