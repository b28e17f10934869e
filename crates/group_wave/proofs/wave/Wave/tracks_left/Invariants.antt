use Rattle.wave_queue.specs.kept.Queues.{entry_of}
use Rattle.group_wave.proofs.Left.{AreLeft}
use Rattle.group_wave.proofs.wave.Wave.tracks_left.Given as goal

abbrev pub invariant-loop-rest : goal.invariant-loop-rest
invariant-loop-rest g l = AreLeft l.self l.group (entry_of g.K.Key.value l.fn.entry) l.rest l.left

abbrev pub decreases-loop-rest : goal.decreases-loop-rest
decreases-loop-rest g l = l.rest
