use Rattle.track_groups.specs.Joints.{taps_of}
use Rattle.wave_queue.specs.kept.Queues.{entry_of}
use Rattle.group_wave.specs.kept.Steps.{Spreads, TookTaps}
use Rattle.group_wave.proofs.wave.Wave.reach_all.Given as goal

abbrev pub invariant-loop-tap : goal.invariant-loop-tap
invariant-loop-tap g l = record {
  spreads : Spreads l.ground l.fn.self l.self;
  took : TookTaps l.ground l.self (entry_of g.K.Key.value l.entry) (taps_of l.ground.tables l.entry.group) l.tap-index;
}
