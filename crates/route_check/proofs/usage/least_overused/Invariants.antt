use Rattle.std.proofs.Common.{◌≡◌, ℕ, ◌<◌}
use Rattle.route_check.specs.kept.Counted.{excess_of}
use Rattle.route_check.proofs.usage.least_overused.Given as goal

abbrev pub invariant-loop-node : goal.invariant-loop-node
invariant-loop-node l = (a : ℕ) → a < l.node → excess_of l.device l.counts a ≡ 0
