use Rattle.std.specs.Prelude.{take}
use Rattle.congestion_book.specs.kept.HistoryTables.{GrowsByRow}
use Rattle.congestion_book.proofs.history.add_row.Given as goal

abbrev pub invariant-loop-amount : goal.invariant-loop-amount
invariant-loop-amount l = GrowsByRow l.acc (take l.amount-index l.row) l.initial.histories l.histories
