use Rattle.std.proofs.Common.{length}
use Rattle.wave_queue.specs.kept.Queues.{entry_of}
use Rattle.group_wave.specs.kept.Steps.{Spreads, TookBut}
use Rattle.group_wave.proofs.wave.Wave.expand_track_to_unsettled.Given as goal

-- all but those that are left were offered the way
abbrev pub invariant-loop-left : goal.invariant-loop-left
invariant-loop-left g l = record {
  spreads : Spreads l.ground l.fn.self l.self;
  others : TookBut l.ground l.self (entry_of g.K.Key.value l.fn.entry) l.neighbours (length l.neighbours) l.left;
}

abbrev pub decreases-loop-left : goal.decreases-loop-left
decreases-loop-left g l = l.left
