use Rattle.std.proofs.Common.{arith, length, refl, ap, subst}
use Rattle.wave_queue.specs.kept.Queues.{entry_of}
use Rattle.group_wave.specs.kept.Steps.{TookNearerBefore}
use Rattle.group_wave.proofs.Beside.{nearer_next}
use Rattle.group_wave.proofs.Entered.{spreads_then, still_out}
use Rattle.group_wave.proofs.wave.Wave.expand_tracks_to_nearer.Goals as goal

pub expand_tracks_if_nearer-requires-clause-out : goal.expand_tracks_if_nearer-requires-clause-out
expand_tracks_if_nearer-requires-clause-out g c = still_out c.args.ground.now c.args.self.now c.loop-neighbour.self (entry_of g.K.Key.value c.args.entry) g.K.Key.greatest c.args.group.now c.loop-neighbour.invariant.spreads c.requires.out

pub loop-neighbour-preserved : goal.loop-neighbour-preserved
loop-neighbour-preserved g c = record {
  spreads = spreads_then c.args.ground.now c.args.self.now c.loop-neighbour.self c.expand_tracks_if_nearer.new.self c.loop-neighbour.invariant.spreads c.in_ok-expand_tracks_if_nearer.ensures.spreads;
  took = nearer_next c.args.ground.now (entry_of g.K.Key.value c.args.entry) c.loop-neighbour.self c.expand_tracks_if_nearer.new.self c.args.wires c.neighbours-neighbours.result.now c.loop-neighbour.neighbour-index _ c.in_ok-expand_tracks_if_nearer.ensures.spreads refl c.loop-neighbour.invariant.took c.in_ok-expand_tracks_if_nearer.ensures.took;
}

pub returns-clause-took : goal.returns-clause-took
returns-clause-took g c k lt within =
    let told = c.neighbours-neighbours.ensures in
    let size = ap length told in
    let past = c.loop-neighbour-test.false in
    let all = subst (λ hs. TookNearerBefore c.args.ground.now c.loop-neighbour.self (entry_of g.K.Key.value c.args.entry) c.args.wires hs c.loop-neighbour.neighbour-index) told c.loop-neighbour.invariant.took in
    all k (omega (arith, size, past, lt)) within
