use Rattle.std.proofs.Common.{◌≡◌, false, not}
use Rattle.std.specs.Prelude.{take}
use Rattle.std.specs.List.{list_any}
use Rattle.route_tree.specs.Paths.{ends_of}
use Rattle.route_tree.specs.Legality.{is_among}
use Rattle.route_check.proofs.ladder.misses_sink.Given as goal

abbrev pub invariant-loop-place : goal.invariant-loop-place
invariant-loop-place l = list_any (λ s. not (is_among (ends_of l.listing) s)) (take l.place l.sinks) ≡ false
