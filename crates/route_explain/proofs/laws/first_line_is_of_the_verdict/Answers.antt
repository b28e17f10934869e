use Rattle.route_explain.proofs.Agreeing.{agrees}
use Rattle.route_explain.proofs.laws.first_line_is_of_the_verdict.Goals as goal

pub returns : goal.returns
returns c = agrees c.args.problem.now c.args.routing.now c.args.faults.now c.args.verdict c.requires.one_each c.requires.judged c.requires.verdict
