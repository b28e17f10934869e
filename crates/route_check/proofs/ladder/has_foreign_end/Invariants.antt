use Rattle.std.proofs.Common.{◌≡◌, false}
use Rattle.std.specs.Prelude.{take}
use Rattle.std.specs.List.{list_any}
use Rattle.route_check.specs.kept.Judged.{is_foreign}
use Rattle.route_check.proofs.ladder.has_foreign_end.Given as goal

abbrev pub invariant-loop-place : goal.invariant-loop-place
invariant-loop-place l = list_any (is_foreign l.device l.sinks) (take l.place l.ends) ≡ false
