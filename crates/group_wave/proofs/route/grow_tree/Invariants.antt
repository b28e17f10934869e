use Rattle.group_wave.specs.kept.Growing.{IsGrowth, open_count}
use Rattle.group_wave.proofs.Whole.{TakenBelow}
use Rattle.group_wave.proofs.route.grow_tree.Given as goal

abbrev pub invariant-loop-sink : goal.invariant-loop-sink
invariant-loop-sink g l = record {
  growth : IsGrowth l.ground l.tree l.scratch.wave;
  taken : TakenBelow l.ground l.scratch.wave l.sink-index;
}

abbrev pub invariant-loop-sink-2 : goal.invariant-loop-sink-2
invariant-loop-sink-2 g l = record {
  growth : IsGrowth l.ground l.tree l.scratch.wave;
  taken : TakenBelow l.ground l.scratch.wave l.sink-index;
}

abbrev pub decreases-loop-sink-2 : goal.decreases-loop-sink-2
decreases-loop-sink-2 g l = open_count l.ground l.scratch.wave
