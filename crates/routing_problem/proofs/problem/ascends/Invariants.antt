use Rattle.std.proofs.Common.{◌≡◌, ℕ, ◌<◌, true}
use Rattle.routing_problem.specs.Problems.{rises_at}
use Rattle.routing_problem.proofs.problem.ascends.Given as goal

abbrev pub invariant-loop-index : goal.invariant-loop-index
invariant-loop-index l = (k : ℕ) → k < l.index → rises_at l.numbers k ≡ true
