use Rattle.std.proofs.Common.{take}
use Rattle.route_explain.specs.kept.Places.{ArePlaces}
use Rattle.route_explain.proofs.places.Places.of.Given as goal

-- the nodes so far have their places
abbrev pub invariant-loop-place : goal.invariant-loop-place
invariant-loop-place l = ArePlaces (take l.place l.nodes) l.places
