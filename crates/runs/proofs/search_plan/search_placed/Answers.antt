use Rattle.std.proofs.Common.{◌++◌, sym, ◌∙◌}
use Rattle.std.proofs.lemmas.Bool.{false≢true}
use Rattle.std.proofs.lemmas.Result.{err_from_is_err_and}
use Rattle.run_inputs.specs.Runs.{writing}
use Rattle.runs.specs.kept.Negotiated.{Negotiated}
use Rattle.runs.proofs.Saying.{report_failed, report_other, search_said, search_unwritten}
use Rattle.runs.proofs.Telling.{takes_text, tells_then}
use Rattle.runs.proofs.Widths.{routes_least}
use Rattle.runs.proofs.Writing.{free_late}
use Rattle.runs.proofs.search_plan.search_placed.Goals as goal

pub returns-in_err-report-clause-runs : goal.returns-in_err-report-clause-runs
returns-in_err-report-clause-runs g c =
    let p = err_from_is_err_and c.from_residual.result c.from_residual.ensures.1 in
    rw (p.1, p.2) (λ bound. absurd (false≢true (sym bound ∙ c.in_err-report.ensures.free)))

pub returns-in_err-report-clause-late : goal.returns-in_err-report-clause-late
returns-in_err-report-clause-late g c =
    let p = err_from_is_err_and c.from_residual.result c.from_residual.ensures.1 in
    rw (p.1, p.2) (free_late c.in_err-report.field-0.0 c.in_err-report.ensures.free)

pub write_report-requires : goal.write_report-requires
write_report-requires g c =
    routes_least c.args.widths.now.mode c.args.widths.now.placed.now c.args.widths.now.run.settings.now c.args.widths.now.run.workers (g.G.Gate.accepted c.args.widths.now.run.gate.now) c.in_ok-report.report c.in_ok-report.ensures.report.least

pub returns-in_err-write_report-clause-runs : goal.returns-in_err-write_report-clause-runs
returns-in_err-write_report-clause-runs g c =
    let comes_to = Negotiated g.G.Gate.accepted c.args.widths.now in
    let route = writing (g.R.ByteSink.taken c.args.route.now) (g.R.ByteSink.taken c.write_report.new.route) (g.R.ByteSink.failed c.write_report.new.route) in
    let out = writing (g.W.ByteSink.taken c.args.out.now) (g.W.ByteSink.taken c.write_report.new.out) (g.W.ByteSink.failed c.write_report.new.out) in
    let p = err_from_is_err_and c.from_residual-in_err-write_report.result c.from_residual-in_err-write_report.ensures.1 in
    let placed = c.args.widths.now.placed.now in
    let tries = c.in_ok-report.ensures.tries in
    let r = c.in_ok-report.report in
    rw (p.1, p.2) (λ bound. (
      r,
      c.in_ok-report.ensures.report,
      report_failed (tt {0}) r c.in_err-write_report.field-0.0 route out c.args.widths.now.mode placed r (c.in_err-write_report.ensures.writes bound),
      (tries.0, search_unwritten comes_to placed c.args.plan.start c.args.plan.below c.args.plan.shows_bound r _ tries.0 tries.1, takes_text _ _ _ _ _ tries.0 tries.2),
    ))

pub returns-clause-runs : goal.returns-clause-runs
returns-clause-runs g c =
    let comes_to = Negotiated g.G.Gate.accepted c.args.widths.now in
    let route = writing (g.R.ByteSink.taken c.args.route.now) (g.R.ByteSink.taken c.write_report.new.route) (g.R.ByteSink.failed c.write_report.new.route) in
    let out = writing (g.W.ByteSink.taken c.args.out.now) (g.W.ByteSink.taken c.write_report.new.out) (g.W.ByteSink.failed c.write_report.new.out) in
    let placed = c.args.widths.now.placed.now in
    let tries = c.in_ok-report.ensures.tries in
    let shows = c.show_bound.ensures in
    let r = c.in_ok-report.report in
    λ bound. (
      r,
      c.in_ok-report.ensures.report,
      report_other (tt {0}) r route out c.args.widths.now.mode placed r (c.in_ok-write_report.ensures.writes bound),
      (
        tries.0 ++ shows.0,
        search_said comes_to placed c.args.plan.start c.args.plan.below c.args.plan.shows_bound r _ tries.0 tries.1 shows.0 shows.1,
        takes_text _ _ _ _ _ (tries.0 ++ shows.0) (tells_then tries.2 shows.2),
      ),
    )
