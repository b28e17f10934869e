use Rattle.wave_queue.specs.kept.Queues.{entry_of}
use Rattle.group_wave.specs.kept.Steps.{Spreads, TookNearerBefore}
use Rattle.group_wave.proofs.wave.Wave.expand_tracks_to_nearer.Given as goal

-- those so far were offered the way, if fewer wires lead on from them
abbrev pub invariant-loop-neighbour : goal.invariant-loop-neighbour
invariant-loop-neighbour g l = record {
  spreads : Spreads l.ground l.fn.self l.self;
  took : TookNearerBefore l.ground l.self (entry_of g.K.Key.value l.fn.entry) l.fn.wires l.neighbours l.neighbour-index;
}
