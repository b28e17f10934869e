use Rattle.std.proofs.Common.{arith, refl}
use Rattle.wave_queue.specs.kept.Queues.{entry_of}
use Rattle.group_wave.proofs.Beside.{took_next}
use Rattle.group_wave.proofs.Entered.{spreads_then, still_out}
use Rattle.group_wave.proofs.wave.Wave.expand_track_to_many.Goals as goal

pub expand_track_to_one-requires-clause-out : goal.expand_track_to_one-requires-clause-out
expand_track_to_one-requires-clause-out g c = still_out c.args.ground.now c.args.self.now c.loop-neighbour.self (entry_of g.K.Key.value c.args.entry) g.K.Key.greatest c.args.group.now c.loop-neighbour.invariant.spreads c.requires.out

pub loop-neighbour-preserved : goal.loop-neighbour-preserved
loop-neighbour-preserved g c = record {
  spreads = spreads_then c.args.ground.now c.args.self.now c.loop-neighbour.self c.expand_track_to_one.new.self c.loop-neighbour.invariant.spreads c.in_ok-expand_track_to_one.ensures.spreads;
  took = took_next c.args.ground.now (entry_of g.K.Key.value c.args.entry) c.loop-neighbour.self c.expand_track_to_one.new.self c.args.neighbours.now c.loop-neighbour.neighbour-index _ c.in_ok-expand_track_to_one.ensures.spreads refl c.loop-neighbour.invariant.took c.in_ok-expand_track_to_one.ensures.took;
}

pub returns-clause-took : goal.returns-clause-took
returns-clause-took g c k lt within = c.loop-neighbour.invariant.took k (let past = c.loop-neighbour-test.false in omega (arith, past, lt)) within
