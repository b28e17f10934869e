use Rattle.std.proofs.Common.{List, ap, subst, sym}
use Rattle.vpr_text.specs.Words.{Line}
use Rattle.run_inputs.specs.Runs.{writing}
use Rattle.report_run.specs.ReportRun.{PrintsReport, lines_read}
use Rattle.report_run.specs.kept.Placed.{design_with}
use Rattle.report_run.proofs.run.report_routing.Goals as goal

pub returns-clause-reports : goal.returns-clause-reports
returns-clause-reports g c =
    let sink = g.W.ByteSink in
    let design = c.args.design.now in
    let d = design_with design.placed.now design.problem.now in
    let out = writing (sink.taken c.args.out.now) (sink.taken c.report_lines.new.out) (sink.failed c.report_lines.new.out) in
    λ ne. subst (λ (lines : List Line). PrintsReport c.args.form out design.placed.now (record { design = d; lines = lines; routing = c.args.routing.now }) c.report_lines.result)
    (sym (ap lines_read c.in-Ok.ensures)) (c.report_lines.ensures.reports ne)
