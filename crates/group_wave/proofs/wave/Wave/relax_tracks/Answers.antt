use Rattle.std.proofs.Common.{arith}
use Rattle.group_wave.proofs.Offered.{offered_step, offered_target}
use Rattle.group_wave.proofs.RelaxedTracks.{relaxed_fresh_more, relaxed_more}
use Rattle.group_wave.proofs.wave.Wave.relax_tracks.Goals as goal

pub relax_track-requires-clause-from : goal.relax_track-requires-clause-from
relax_track-requires-clause-from g c =
    let value = g.K.Key.value in
    let near = c.requires.near in
    let narrow = g.met.K.Key.narrow in
    rw c.requires.label (offered_step c.args.ground.now c.requires.ground c.args.self.now c.loop-left.self (value c.args.offer.label) (value c.args.step.least) c.args.offer.first c.args.offer.step c.args.step.group c.args.tracks c.loop-left.left c.loop-left.fresh
    c.args.group.now c.requires.group c.requires.offer c.loop-left.invariant.some c.take_bit-track.result c.take_bit-track.ensures.taken.was (omega (arith, near, narrow)))

pub loop-left-preserved-then-branch : goal.loop-left-preserved-then-branch
loop-left-preserved-then-branch g c =
    let value = g.K.Key.value in
    let target = offered_target c.args.ground.now c.requires.ground c.args.self.now c.loop-left.self (value c.args.offer.label) (value c.args.step.least) c.args.offer.first c.args.offer.step c.args.step.group c.args.tracks c.loop-left.left c.loop-left.fresh
    c.args.group.now c.requires.group c.requires.offer c.loop-left.invariant.some c.take_bit-track.result c.take_bit-track.ensures.taken.was in
    let step = rw (c.if-branch.true, c.requires.label) at c.in_ok-relax_track.ensures.relaxed in
    record {
      some = relaxed_fresh_more c.args.ground.now c.args.self.now c.loop-left.self c.relax_track.new.self (value c.args.offer.label) (value c.args.step.least) c.args.step.group c.args.tracks c.loop-left.left c.take_bit-track.new.bits c.loop-left.fresh c.take_bit-track.result _
          c.take_bit-track.ensures.taken target.on target.is c.loop-left.invariant.some c.with_bit-fresh.result c.with_bit-fresh.ensures step;
      fits = λ some. c.in_ok-relax_track.ensures.fits c.if-branch.true;
    }

pub loop-left-preserved : goal.loop-left-preserved
loop-left-preserved g c =
    let value = g.K.Key.value in
    let target = offered_target c.args.ground.now c.requires.ground c.args.self.now c.loop-left.self (value c.args.offer.label) (value c.args.step.least) c.args.offer.first c.args.offer.step c.args.step.group c.args.tracks c.loop-left.left c.loop-left.fresh
    c.args.group.now c.requires.group c.requires.offer c.loop-left.invariant.some c.take_bit-track.result c.take_bit-track.ensures.taken.was in
    let step = rw (c.if-branch.false, c.requires.label) at c.in_ok-relax_track.ensures.relaxed in
    record {
      some = relaxed_more c.args.ground.now c.args.self.now c.loop-left.self c.relax_track.new.self (value c.args.offer.label) (value c.args.step.least) c.args.step.group c.args.tracks c.loop-left.left c.take_bit-track.new.bits c.loop-left.fresh c.take_bit-track.result _
          c.take_bit-track.ensures.taken target.on target.is c.loop-left.invariant.some step;
      fits = c.loop-left.invariant.fits;
    }
