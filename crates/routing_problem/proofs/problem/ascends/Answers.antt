use Rattle.std.proofs.Common.{◌-◌, length, sym, arith}
use Rattle.routing_problem.specs.Problems.{ascends, rises_at}
use Rattle.routing_problem.proofs.FirstFaults.{one_below}
use Rattle.routing_problem.proofs.problem.ascends.Goals as goal

-- src/problem.rt:70:13
pub returns-then-not-rises_at : goal.returns-then-not-rises_at
unfolding ascends
returns-then-not-rises_at c =
    let xs = c.args.numbers.now in
    sym (one_below (rises_at xs) (length xs - 1) c.loop-index.index (omega (arith, c.saturating_sub-index-end.ensures, c.loop-index-test.true)) (sym c.if-not-rises_at.ensures))
