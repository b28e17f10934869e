use Rattle.std.proofs.Common.{arith}
use Rattle.group_wave.proofs.Costs.{no_less}
use Rattle.group_wave.proofs.Relaxed.{relaxed_fresh}
use Rattle.group_wave.proofs.wave.Wave.lower.Goals as goal

pub returns-clause-relaxed : goal.returns-clause-relaxed
returns-clause-relaxed g c =
    let value = g.K.Key.value in
    let narrow = g.met.K.Key.narrow in
    let sum = c.requires.cost in
    let fits = c.requires.fits in
    let more = no_less c.is_below.result _ _ c.is_below.ensures c.if-is_below.false in
    let least = c.requires.least in
    relaxed_fresh c.args.ground.now c.requires.ground c.args.self.now c.requires.wave (value c.args.step.label) c.args.to.wire c.args.to.parent c.requires.from
    c.set.new.self (value c.args.cost) (value c.args.price) c.requires.price c.in_ok-set.ensures.set c.in_ok-set.ensures.best
    c.requires.less (omega (arith, fits, narrow)) (omega (arith, sum)) (omega (arith, sum)) (value c.args.step.least) (omega (arith, more, least))
