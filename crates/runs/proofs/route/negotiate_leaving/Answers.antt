use Rattle.std.proofs.Common.{rules, ◌≡◌, subst}
use Rattle.iteration.specs.Outcomes.{EndsNegotiation}
use Rattle.runs.proofs.route.negotiate_leaving.Goals as goal

pub returns-clause-run : goal.returns-clause-run
returns-clause-run g c =
    let is : c.in_ok-problem.problem ≡ c.args.design.now.problem = search rules in
    subst (λ p. EndsNegotiation p c.args.run.now.settings.now c.args.run.now.workers (g.G.Gate.accepted c.args.run.now.gate.now) c.in_ok-outcome.outcome) is c.in_ok-outcome.ensures.run
