use Rattle.std.proofs.Common.{length, sym, arith, ◌∙◌}
use Rattle.routing_problem.specs.Problems.{net_fault}
use Rattle.routing_problem.proofs.FirstFaults.{first_below}
use Rattle.routing_problem.proofs.problem.first_net_fault.Goals as goal

-- src/problem.rt:165:13
pub returns-in-Some : goal.returns-in-Some
returns-in-Some c =
    let nets = c.args.nets.now in
    sym (first_below (net_fault c.args.device.now nets) (length nets) c.loop-index.index c.in-Some.fault (omega (arith, c.loop-index-test.true)) c.loop-index.invariant (sym c.net_fault.ensures ∙ c.in-Some.is))
