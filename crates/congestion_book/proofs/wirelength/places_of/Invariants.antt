use Rattle.std.proofs.Common.{◌≡◌, ◌+◌, drop}
use Rattle.std.specs.List.{sum_by}
use Rattle.route_report.specs.Wirelength.{places_at}
use Rattle.congestion_book.proofs.wirelength.places_of.Given as goal

abbrev pub invariant-loop-row : goal.invariant-loop-row
invariant-loop-row l = l.places + sum_by (λ r. places_at l.device r.node) (drop l.row-index l.rows) ≡ sum_by (λ r. places_at l.device r.node) l.rows
