use Rattle.std.proofs.Common.{◌≤◌, length}
use Rattle.group_wave.specs.kept.Starts.{IsNarrowed}
use Rattle.group_wave.proofs.wave.Wave.narrow.Given as goal

abbrev pub invariant-loop-left : goal.invariant-loop-left
invariant-loop-left g l = record {
  narrowed : IsNarrowed l.ground l.fn.self l.self;
  within : l.left ≤ length l.self.boxes;
}

abbrev pub decreases-loop-left : goal.decreases-loop-left
decreases-loop-left g l = l.left
