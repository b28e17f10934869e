use Rattle.std.specs.Prelude.{take}
use Rattle.route_tree.specs.kept.Marked.{nodes_of}
use Rattle.congestion_book.specs.kept.Views.{LeavesOut}
use Rattle.congestion_book.proofs.totals.return_rows.Given as goal

abbrev pub invariant-loop-row : goal.invariant-loop-row
invariant-loop-row l = LeavesOut (nodes_of (take l.row-index l.rows)) l.view l.initial.view
