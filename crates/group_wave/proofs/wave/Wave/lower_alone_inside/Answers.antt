use Rattle.std.proofs.Common.{arith}
use Rattle.group_wave.proofs.Entered.{entered_out}
use Rattle.group_wave.proofs.wave.Wave.lower_alone_inside.Goals as goal

pub returns-then-drops : goal.returns-then-drops
returns-then-drops g c =
    let value = g.K.Key.value in
    let sum = c.requires.cost in
    entered_out c.args.ground.now c.requires.ground c.args.self.now c.requires.wave (value c.args.step.label) c.args.to.wire c.args.to.parent c.requires.from
    c.drops.new.self (value c.args.cost) (c.drops.ensures.noted c.if-drops.true) (c.drops.ensures.known c.if-drops.true) (omega (arith, sum))

pub lower_if_inside-requires-clause-wave : goal.lower_if_inside-requires-clause-wave
lower_if_inside-requires-clause-wave g c = rw (c.drops.ensures.same c.if-drops.false) c.requires.wave

pub lower_if_inside-requires-clause-from : goal.lower_if_inside-requires-clause-from
lower_if_inside-requires-clause-from g c = rw (c.drops.ensures.same c.if-drops.false) c.requires.from

pub lower_if_inside-requires-clause-less : goal.lower_if_inside-requires-clause-less
lower_if_inside-requires-clause-less g c = rw (c.drops.ensures.same c.if-drops.false) c.requires.less

pub returns : goal.returns
returns g c = rw (c.drops.ensures.same c.if-drops.false) at c.lower_if_inside.ensures
