use Rattle.std.proofs.Common.{reverse}
use Rattle.wave_ground.specs.kept.Grounds.{Ground}
use Rattle.group_wave.specs.kept.Steps.{HasReached}
use Rattle.group_wave.specs.kept.Wave.{cost_at}
use Rattle.group_wave.proofs.Traced.{IsTracing}
use Rattle.group_wave.proofs.wave.Wave.trace_back.Given as goal

abbrev pub invariant-loop-way : goal.invariant-loop-way
invariant-loop-way g l = (ground : Ground) → HasReached ground l.self l.sink → IsTracing ground l.self l.node (reverse l.way.items) l.sink

abbrev pub decreases-loop-way : goal.decreases-loop-way
decreases-loop-way g l = cost_at l.self l.node
