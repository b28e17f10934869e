use Rattle.std.proofs.Common.{◌≡◌, ◌*◌, ◌≤◌}
use Rattle.std.specs.List.{sum_by}
use Rattle.routing_problem.specs.Fabric.{numbers_below}
use Rattle.congestion_book.specs.kept.Usage.{excess_of}
use Rattle.congestion_book.proofs.usage.Usage.total_excess.Given as goal

abbrev pub invariant-loop-id : goal.invariant-loop-id
invariant-loop-id l = (l.total ≡ sum_by (excess_of l.device l.self.counts) (numbers_below l.id)) × (l.total ≤ 4294967295 * l.id)
