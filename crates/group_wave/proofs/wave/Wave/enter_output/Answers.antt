use Rattle.std.proofs.Common.{arith, rules}
use Rattle.group_wave.proofs.Entered.{entered_kept}
use Rattle.group_wave.proofs.Outputs.{output_from}
use Rattle.group_wave.proofs.wave.Wave.enter_output.Goals as goal

pub returns : goal.returns
returns g c = entered_kept c.args.ground.now c.requires.ground c.args.self.now c.requires.wave 0 c.args.pin c.args.ground.now.space.net.source (output_from c.args.ground.now c.requires.ground c.args.self.now c.requires.wave c.args.pin c.requires.start c.requires.edge)
    c.keep_least.new.self _ _ (search rules) (omega (arith, c.cut-cost.ensures, c.cost.ensures)) (rw c.source.ensures at c.keep_least.ensures)
