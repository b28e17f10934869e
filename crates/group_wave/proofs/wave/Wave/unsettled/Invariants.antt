use Rattle.wave_queue.specs.kept.Queues.{entry_of}
use Rattle.group_wave.specs.kept.Steps.{TookBut}
use Rattle.group_wave.proofs.wave.Wave.unsettled.Given as goal

-- those so far were offered the way, or are noted
abbrev pub invariant-loop-at : goal.invariant-loop-at
invariant-loop-at g l = TookBut l.ground l.self (entry_of g.K.Key.value l.entry) l.neighbours l.at l.places
