use Rattle.std.proofs.Common.{◌≡◌}
use Rattle.congestion_book.specs.kept.Usage.{excess_of}
use Rattle.congestion_book.proofs.Rows.{entries}
use Rattle.congestion_book.proofs.usage.Usage.row.Given as goal

abbrev pub invariant-loop-id : goal.invariant-loop-id
invariant-loop-id l = l.row.items ≡ entries (excess_of l.device l.self.counts) l.id
