use Rattle.std.proofs.Common.{◌≡◌, ℕ, ◌<◌, None}
use Rattle.routing_problem.specs.Problems.{net_fault}
use Rattle.routing_problem.proofs.problem.first_net_fault.Given as goal

abbrev pub invariant-loop-index : goal.invariant-loop-index
invariant-loop-index l = (k : ℕ) → k < l.index → net_fault l.device l.nets k ≡ None
