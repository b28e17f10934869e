use Rattle.route_check.specs.declared.fault.RouteFault.TheVariants.{Length}
use Rattle.runs.proofs.check.judge.Goals as goal

pub returns-clause-judges : goal.returns-clause-judges
returns-clause-judges g c =
    let reported = rw c.problem-problem.ensures.problem at c.in-Ok.ensures in
    let printed = rw (c.netlist-netlist.ensures, c.problem-problem.ensures.problem) at c.print_verdict.ensures in
    λ ne. (c.in-Ok.verdict, record { legal = reported.routed; first = reported.first; fits = λ e. ((reported.first Length).0 e).there c.requires }, printed)
