use Rattle.std.proofs.Common.{◌+◌, map, take}
use Rattle.rr_edges.specs.kept.Pushes.{Pushes}
use Rattle.rr_edges.proofs.fanout.Taps.push_from.Given as goal

abbrev pub invariant-loop-place : goal.invariant-loop-place
invariant-loop-place l = Pushes l.initial.list (map (λ j. l.start + j) (take l.place-index l.place-items)) l.list
