use Rattle.std.proofs.Common.{sym, ◌∙◌}
use Rattle.std.proofs.lemmas.Bool.{false≢true}
use Rattle.std.proofs.lemmas.Result.{err_from_is_err_and}
use Rattle.run_inputs.specs.Runs.{writing}
use Rattle.runs.proofs.Writing.{free_late, routes_problem, written_bound, written_late}
use Rattle.runs.proofs.route.route_design.Goals as goal

pub returns-in_err-outcome-clause-runs : goal.returns-in_err-outcome-clause-runs
returns-in_err-outcome-clause-runs g c =
    let p = err_from_is_err_and c.from_residual.result c.from_residual.ensures.1 in
    rw (p.1, p.2) (λ bound. absurd (false≢true (sym bound ∙ c.in_err-outcome.ensures.free)))

pub returns-in_err-outcome-clause-late : goal.returns-in_err-outcome-clause-late
returns-in_err-outcome-clause-late g c =
    let p = err_from_is_err_and c.from_residual.result c.from_residual.ensures.1 in
    rw (p.1, p.2) (free_late c.in_err-outcome.field-0.0 c.in_err-outcome.ensures.free)

pub write_outcome-requires : goal.write_outcome-requires
write_outcome-requires g c = routes_problem c.args.design.now.problem c.args.run.now.settings.now c.in_ok-outcome.outcome c.in_ok-outcome.ensures.outcome

pub returns-clause-runs : goal.returns-clause-runs
returns-clause-runs g c = λ _. (c.in_ok-outcome.outcome, c.in_ok-outcome.ensures.outcome, c.in_ok-outcome.ensures.run, c.write_outcome.ensures.writes)

pub returns-clause-route : goal.returns-clause-route
returns-clause-route g c =
    let route = writing (g.R.ByteSink.taken c.args.route.now) (g.R.ByteSink.taken c.write_outcome.new.route) (g.R.ByteSink.failed c.write_outcome.new.route) in
    let out = writing (g.W.ByteSink.taken c.args.out.now) (g.W.ByteSink.taken c.write_outcome.new.out) (g.W.ByteSink.failed c.write_outcome.new.out) in
    λ free. absurd (false≢true (sym (written_bound route out c.args.design.now c.write_outcome.result c.in_ok-outcome.outcome c.write_outcome.ensures.writes) ∙ free))

pub returns-clause-out : goal.returns-clause-out
returns-clause-out g c =
    let route = writing (g.R.ByteSink.taken c.args.route.now) (g.R.ByteSink.taken c.write_outcome.new.route) (g.R.ByteSink.failed c.write_outcome.new.route) in
    let out = writing (g.W.ByteSink.taken c.args.out.now) (g.W.ByteSink.taken c.write_outcome.new.out) (g.W.ByteSink.failed c.write_outcome.new.out) in
    λ free. absurd (false≢true (sym (written_bound route out c.args.design.now c.write_outcome.result c.in_ok-outcome.outcome c.write_outcome.ensures.writes) ∙ free))

pub returns-clause-late : goal.returns-clause-late
returns-clause-late g c =
    let route = writing (g.R.ByteSink.taken c.args.route.now) (g.R.ByteSink.taken c.write_outcome.new.route) (g.R.ByteSink.failed c.write_outcome.new.route) in
    let out = writing (g.W.ByteSink.taken c.args.out.now) (g.W.ByteSink.taken c.write_outcome.new.out) (g.W.ByteSink.failed c.write_outcome.new.out) in
    written_late route out c.args.design.now c.write_outcome.result c.in_ok-outcome.outcome c.write_outcome.ensures.writes
