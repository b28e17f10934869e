use Rattle.std.proofs.Common.{◌++◌, sym, ◌∙◌}
use Rattle.std.proofs.lemmas.Bool.{false≢true}
use Rattle.std.proofs.lemmas.Result.{err_from_is_err_and}
use Rattle.bound_run.specs.Bounds.{width_line}
use Rattle.run_inputs.specs.Runs.{writing}
use Rattle.runs.specs.Known.{first_possible, known_from}
use Rattle.runs.proofs.Saying.{report_failed, report_other, upward_said, upward_unwritten}
use Rattle.runs.proofs.Telling.{takes_text, tells_then}
use Rattle.runs.proofs.Widths.{routes_least}
use Rattle.runs.proofs.Writing.{free_late}
use Rattle.runs.proofs.upward_plan.upward_placed.Goals as goal

pub returns-in_err-figures-clause-runs : goal.returns-in_err-figures-clause-runs
returns-in_err-figures-clause-runs g c =
    let p = err_from_is_err_and c.from_residual.result c.from_residual.ensures.1 in
    rw (p.1, p.2) (λ bound. absurd (false≢true (sym bound ∙ c.in_err-figures.ensures.free)))

pub returns-in_err-figures-clause-late : goal.returns-in_err-figures-clause-late
returns-in_err-figures-clause-late g c =
    let p = err_from_is_err_and c.from_residual.result c.from_residual.ensures.1 in
    rw (p.1, p.2) (free_late c.in_err-figures.field-0.0 c.in_err-figures.ensures.free)

pub returns-in_err-report-clause-runs : goal.returns-in_err-report-clause-runs
returns-in_err-report-clause-runs g c =
    let p = err_from_is_err_and c.from_residual-in_err-report.result c.from_residual-in_err-report.ensures.1 in
    rw (p.1, p.2) (λ bound. absurd (false≢true (sym bound ∙ c.in_err-report.ensures.free)))

pub returns-in_err-report-clause-late : goal.returns-in_err-report-clause-late
returns-in_err-report-clause-late g c =
    let p = err_from_is_err_and c.from_residual-in_err-report.result c.from_residual-in_err-report.ensures.1 in
    rw (p.1, p.2) (free_late c.in_err-report.field-0.0 c.in_err-report.ensures.free)

pub write_report-requires : goal.write_report-requires
write_report-requires g c =
    routes_least c.args.widths.now.mode c.args.widths.now.placed.now c.args.widths.now.run.settings.now c.args.widths.now.run.workers (g.G.Gate.accepted c.args.widths.now.run.gate.now) c.in_ok-report.report c.in_ok-report.ensures.report.searched.least

pub returns-in_err-write_report-clause-runs : goal.returns-in_err-write_report-clause-runs
returns-in_err-write_report-clause-runs g c =
    let route = writing (g.R.ByteSink.taken c.args.route.now) (g.R.ByteSink.taken c.write_report.new.route) (g.R.ByteSink.failed c.write_report.new.route) in
    let out = writing (g.W.ByteSink.taken c.args.out.now) (g.W.ByteSink.taken c.write_report.new.out) (g.W.ByteSink.failed c.write_report.new.out) in
    let p = err_from_is_err_and c.from_residual-in_err-write_report.result c.from_residual-in_err-write_report.ensures.1 in
    let placed = c.args.widths.now.placed.now in
    let r = c.in_ok-report.report in
    let figures = c.in_ok-figures.figures in
    rw (p.1, p.2) (λ bound. (
      r,
      c.in_ok-report.ensures.report,
      report_failed (tt {0}) r c.in_err-write_report.field-0.0 route out c.args.widths.now.mode placed r (c.in_err-write_report.ensures.writes bound),
      (width_line figures, upward_unwritten placed c.args.start r figures c.in_ok-figures.ensures.sound c.in_ok-report.ensures.tried, takes_text _ _ _ _ _ (width_line figures) c.tell_bound.ensures),
    ))

pub returns-clause-runs : goal.returns-clause-runs
returns-clause-runs g c =
    let route = writing (g.R.ByteSink.taken c.args.route.now) (g.R.ByteSink.taken c.write_report.new.route) (g.R.ByteSink.failed c.write_report.new.route) in
    let out = writing (g.W.ByteSink.taken c.args.out.now) (g.W.ByteSink.taken c.write_report.new.out) (g.W.ByteSink.failed c.write_report.new.out) in
    let placed = c.args.widths.now.placed.now in
    let r = c.in_ok-report.report in
    let figures = c.in_ok-figures.figures in
    let text = width_line figures ++ known_from c.args.start (first_possible figures) r.least in
    let known = rw c.first_possible-bound.ensures at c.tell_known.ensures in
    λ bound. (
      r,
      c.in_ok-report.ensures.report,
      report_other (tt {0}) r route out c.args.widths.now.mode placed r (c.in_ok-write_report.ensures.writes bound),
      (
        text,
        upward_said placed c.args.start r figures c.in_ok-figures.ensures.sound c.in_ok-report.ensures.tried,
        takes_text _ _ _ _ _ text (tells_then c.tell_bound.ensures known),
      ),
    )
