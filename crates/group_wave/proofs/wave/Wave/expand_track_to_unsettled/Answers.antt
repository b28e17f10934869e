use Rattle.std.proofs.Common.{Contains, get_or, length, refl, subst}
use Rattle.std.proofs.lemmas.List.Elements.{Contains-get_or}
use Rattle.group_wave.specs.kept.Steps.{TookBut}
use Rattle.wave_queue.specs.kept.Queues.{entry_of}
use Rattle.group_wave.proofs.Beside.{but_less, but_none}
use Rattle.group_wave.proofs.Entered.{spreads_then, still_out}
use Rattle.group_wave.proofs.wave.Wave.expand_track_to_unsettled.Goals as goal

pub expand_track_to_one-requires-clause-out : goal.expand_track_to_one-requires-clause-out
expand_track_to_one-requires-clause-out g c = still_out c.args.ground.now c.args.self.now c.loop-left.self (entry_of g.K.Key.value c.args.entry) g.K.Key.greatest c.args.group.now c.loop-left.invariant.spreads c.requires.out

pub expand_track_to_one-requires-clause-beside : goal.expand_track_to_one-requires-clause-beside
expand_track_to_one-requires-clause-beside g c =
    let at = c.take_bit-at.result in
    let within = c.loop-left.invariant.others.among at c.take_bit-at.ensures.taken.was in
    subst (λ hs. Contains hs (get_or c.args.neighbours.now at 0)) c.requires.beside (Contains-get_or c.args.neighbours.now at 0 within)

pub loop-left-preserved : goal.loop-left-preserved
loop-left-preserved g c = record {
  spreads = spreads_then c.args.ground.now c.args.self.now c.loop-left.self c.expand_track_to_one.new.self c.loop-left.invariant.spreads c.in_ok-expand_track_to_one.ensures.spreads;
  others = but_less c.args.ground.now (entry_of g.K.Key.value c.args.entry) c.loop-left.self c.expand_track_to_one.new.self c.args.neighbours.now _ c.take_bit-at.result _ c.loop-left.left c.take_bit-at.new.bits c.in_ok-expand_track_to_one.ensures.spreads
      c.take_bit-at.ensures.taken refl c.loop-left.invariant.others c.in_ok-expand_track_to_one.ensures.took;
}

pub returns-clause-took : goal.returns-clause-took
returns-clause-took g c k lt within =
    let e = entry_of g.K.Key.value c.args.entry in
    let hs = c.args.neighbours.now in
    but_none c.args.ground.now e c.loop-left.self hs (length hs) (subst (TookBut c.args.ground.now c.loop-left.self e hs (length hs)) c.loop-left-test.false c.loop-left.invariant.others) k lt within
