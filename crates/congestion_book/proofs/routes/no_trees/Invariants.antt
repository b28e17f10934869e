use Rattle.std.proofs.Common.{◌≡◌, replicate, None}
use Rattle.congestion_book.proofs.routes.no_trees.Given as goal

abbrev pub invariant-loop : goal.invariant-loop
invariant-loop l = l.trees.items ≡ replicate l.counter None
