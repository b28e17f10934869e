use Rattle.std.proofs.lemmas.Result.{err_from_is_err_and}
use Rattle.run_inputs.specs.Runs.{writing}
use Rattle.run_inputs.proofs.Ending.{Keeps-same}
use Rattle.run_inputs.specs.Runs.{TakesAll, TakesFront}
use Rattle.iteration.specs.declared.outcome.Outcome.TheVariants.{Success}
use Rattle.runs.specs.RouteRun.{PlacesOutcome, outcome_text}
use Rattle.runs.proofs.Writing.{printed_so, success_unwritten, success_written}
use Rattle.runs.proofs.route.write_success.Goals as goal

pub returns-in_err-write_routing-clause-writes : goal.returns-in_err-write_routing-clause-writes
returns-in_err-write_routing-clause-writes g c =
    let taken = g.W.ByteSink.taken c.args.out.now in
    let out = writing taken taken (g.W.ByteSink.failed c.args.out.now) in
    let unwritten = rw (c.netlist-netlist.ensures, c.placement-placement.ensures, c.problem.ensures.problem) at c.in_err-write_routing.ensures.writes in
    let p = err_from_is_err_and c.from_residual.result c.from_residual.ensures.1 in
    rw (p.1, p.2) (success_unwritten out c.args.design.now c.args.routing c.args.iterations (g.R.ByteSink.taken c.args.route.now) (g.R.ByteSink.taken c.write_routing.new.route) (g.R.ByteSink.failed c.write_routing.new.route)
    c.in_err-write_routing.field-0.0 unwritten (Keeps-same taken))

pub returns-clause-writes : goal.returns-clause-writes
returns-clause-writes g c =
    let out = writing (g.W.ByteSink.taken c.args.out.now) (g.W.ByteSink.taken c.print_outcome.new.out) (g.W.ByteSink.failed c.print_outcome.new.out) in
    let written = rw (c.netlist-netlist.ensures, c.placement-placement.ensures, c.problem.ensures.problem) at c.in_ok-write_routing.ensures.writes in
    success_written out c.args.design.now c.args.routing c.args.iterations (g.R.ByteSink.taken c.args.route.now) (g.R.ByteSink.taken c.write_routing.new.route) (g.R.ByteSink.failed c.write_routing.new.route)
    c.print_outcome.result written c.print_outcome.ensures

pub returns-clause-placed : goal.returns-clause-placed
returns-clause-placed g c =
    let out = writing (g.W.ByteSink.taken c.args.out.now) (g.W.ByteSink.taken c.print_outcome.new.out) (g.W.ByteSink.failed c.print_outcome.new.out) in
    let outcome = Success c.args.routing c.args.iterations in
    let text = outcome_text outcome in
    printed_so (PlacesOutcome (g.R.WholeSink.is_placed c.write_routing.new.route)) (TakesFront out text) (TakesAll out text) outcome c.print_outcome.result out.failed c.print_outcome.ensures c.in_ok-write_routing.ensures.placed
