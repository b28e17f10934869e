use Rattle.std.proofs.Common.{◌≡◌, false, not}
use Rattle.std.specs.Prelude.{take}
use Rattle.std.specs.List.{list_any}
use Rattle.rr_edges.specs.Edges.{edge_between}
use Rattle.routing_problem.proofs.device.Device.lacks_edge.Given as goal

abbrev pub invariant-loop-pair : goal.invariant-loop-pair
invariant-loop-pair l =
    (l.finder ≡ l.self) × (list_any (λ p. not (edge_between l.self p.0 p.1)) (take l.pair-index l.pairs) ≡ false)
