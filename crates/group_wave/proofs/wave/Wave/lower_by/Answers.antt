use Rattle.std.proofs.Common.{◌-◌, subst}
use Rattle.group_wave.specs.kept.Wave.{IsBound}
use Rattle.group_wave.proofs.Relaxed.{relaxed_past}
use Rattle.group_wave.proofs.wave.Wave.lower_by.Goals as goal

pub returns-then-drops : goal.returns-then-drops
returns-then-drops g c =
    let value = g.K.Key.value in
    relaxed_past c.args.ground.now c.requires.ground c.args.self.now c.requires.wave (value c.args.step.label) c.args.to.wire c.args.to.parent c.requires.from
    c.drops.new.self (value c.args.key) (value c.args.step.least) (c.drops.ensures.noted c.if-drops.true) (c.drops.ensures.known c.if-drops.true)
    (subst (λ k. IsBound c.args.ground.now c.args.self.now c.args.to.wire (value c.args.key - k)) c.requires.cost c.requires.low)

pub lower_to-requires-clause-wave : goal.lower_to-requires-clause-wave
lower_to-requires-clause-wave g c = rw (c.drops.ensures.same c.if-drops.false) c.requires.wave

pub lower_to-requires-clause-from : goal.lower_to-requires-clause-from
lower_to-requires-clause-from g c = rw (c.drops.ensures.same c.if-drops.false) c.requires.from

pub lower_to-requires-clause-less : goal.lower_to-requires-clause-less
lower_to-requires-clause-less g c = rw (c.drops.ensures.same c.if-drops.false) c.requires.less

pub lower_to-requires-clause-low : goal.lower_to-requires-clause-low
lower_to-requires-clause-low g c = rw (c.drops.ensures.same c.if-drops.false) c.requires.low

pub returns : goal.returns
returns g c = rw (c.drops.ensures.same c.if-drops.false) at c.lower_to.ensures
