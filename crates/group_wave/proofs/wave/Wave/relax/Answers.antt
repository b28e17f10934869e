use Rattle.std.proofs.Common.{arith}
use Rattle.group_wave.proofs.Offered.{offer_dropped}
use Rattle.group_wave.proofs.wave.Wave.relax.Goals as goal

pub returns-then-drops : goal.returns-then-drops
returns-then-drops g c =
    let least = c.plus.ensures in
    let wire = c.cut.ensures in
    offer_dropped c.args.ground.now c.requires.ground c.args.self.now c.drops.new.self (g.K.Key.value c.args.offer.label) c.args.offer.first c.args.offer.step c.args.group c.args.tracks (g.K.Key.value c.plus.result)
    c.requires.wave c.requires.offer (c.drops.ensures.noted c.if-drops.true) (c.drops.ensures.known c.if-drops.true) (omega (arith, least, wire))

pub relax_by-requires-clause-wave : goal.relax_by-requires-clause-wave
relax_by-requires-clause-wave g c = rw (c.drops.ensures.same c.if-drops.false) c.requires.wave

pub relax_by-requires-clause-offer : goal.relax_by-requires-clause-offer
relax_by-requires-clause-offer g c = rw (c.drops.ensures.same c.if-drops.false) c.requires.offer

pub returns : goal.returns
returns g c = rw (c.drops.ensures.same c.if-drops.false) at c.relax_by.ensures
