use Rattle.std.proofs.Common.{arith}
use Rattle.group_wave.proofs.Relaxed.{relaxed_out}
use Rattle.group_wave.proofs.wave.Wave.lower_alone.Goals as goal

pub returns-then-drops : goal.returns-then-drops
returns-then-drops g c =
    let value = g.K.Key.value in
    let sum = c.requires.cost in
    relaxed_out c.args.ground.now c.requires.ground c.args.self.now c.requires.wave (value c.args.step.label) c.args.to.wire c.args.to.parent c.requires.from
    c.drops.new.self (value c.args.cost) (value c.args.step.least) (c.drops.ensures.noted c.if-drops.true) (c.drops.ensures.known c.if-drops.true) (omega (arith, sum))

pub lower_bounded-requires-clause-wave : goal.lower_bounded-requires-clause-wave
lower_bounded-requires-clause-wave g c = rw (c.drops.ensures.same c.if-drops.false) c.requires.wave

pub lower_bounded-requires-clause-from : goal.lower_bounded-requires-clause-from
lower_bounded-requires-clause-from g c = rw (c.drops.ensures.same c.if-drops.false) c.requires.from

pub lower_bounded-requires-clause-less : goal.lower_bounded-requires-clause-less
lower_bounded-requires-clause-less g c = rw (c.drops.ensures.same c.if-drops.false) c.requires.less

pub returns : goal.returns
returns g c = rw (c.drops.ensures.same c.if-drops.false) at c.lower_bounded.ensures
