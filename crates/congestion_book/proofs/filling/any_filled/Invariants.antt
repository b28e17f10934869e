use Rattle.std.proofs.Common.{◌≡◌, false}
use Rattle.std.specs.Prelude.{take}
use Rattle.std.specs.List.{list_any}
use Rattle.congestion_book.specs.kept.Views.{filled_by}
use Rattle.congestion_book.proofs.filling.any_filled.Given as goal

abbrev pub invariant-loop-row : goal.invariant-loop-row
invariant-loop-row l = list_any (λ r. filled_by l.device l.own l.counts l.view r.node) (take l.row l.rows) ≡ false
