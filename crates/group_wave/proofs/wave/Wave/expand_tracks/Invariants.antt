use Rattle.wave_queue.specs.kept.Queues.{entry_of}
use Rattle.group_wave.specs.kept.Steps.{Spreads, TookBefore}
use Rattle.group_wave.proofs.wave.Wave.expand_tracks.Given as goal

-- those so far were offered the way
abbrev pub invariant-loop-neighbour : goal.invariant-loop-neighbour
invariant-loop-neighbour g l = record {
  spreads : Spreads l.ground l.fn.self l.self;
  took : TookBefore l.ground l.self (entry_of g.K.Key.value l.fn.entry) l.neighbours l.neighbour-index;
}
