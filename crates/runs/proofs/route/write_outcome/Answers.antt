use Rattle.std.proofs.Common.{subst, sym}
use Rattle.iteration.specs.declared.outcome.Outcome.TheVariants.{NotRouted}
use Rattle.runs.specs.RouteRun.{PlacesOutcome, WritesOutcome, outcome_text}
use Rattle.runs.proofs.Writing.{printed_so}
use Rattle.run_inputs.specs.Runs.{TakesAll, TakesFront, writing}
use Rattle.run_inputs.proofs.Ending.{Keeps-same}
use Rattle.runs.proofs.route.write_outcome.Goals as goal

pub returns-in-NotRouted-clause-writes : goal.returns-in-NotRouted-clause-writes
returns-in-NotRouted-clause-writes g c =
    let routed = g.R.ByteSink.taken c.args.route.now in
    let route = writing routed routed (g.R.ByteSink.failed c.args.route.now) in
    let out = writing (g.W.ByteSink.taken c.args.out.now) (g.W.ByteSink.taken c.print_outcome.new.out) (g.W.ByteSink.failed c.print_outcome.new.out) in
    subst (λ o. WritesOutcome route out c.args.design.now o c.print_outcome.result) (sym c.in-NotRouted.is) (Keeps-same routed, c.print_outcome.ensures)

pub returns-in-NotRouted-clause-placed : goal.returns-in-NotRouted-clause-placed
returns-in-NotRouted-clause-placed g c =
    let out = writing (g.W.ByteSink.taken c.args.out.now) (g.W.ByteSink.taken c.print_outcome.new.out) (g.W.ByteSink.failed c.print_outcome.new.out) in
    let outcome = NotRouted c.in-NotRouted.unrouted c.in-NotRouted.overused c.in-NotRouted.iterations in
    let text = outcome_text outcome in
    printed_so (PlacesOutcome (g.R.WholeSink.is_placed c.args.route.now)) (TakesFront out text) (TakesAll out text) outcome c.print_outcome.result out.failed c.print_outcome.ensures tt
