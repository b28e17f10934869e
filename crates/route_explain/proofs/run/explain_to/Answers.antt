use Rattle.std.proofs.Common.{List, ap, subst, sym}
use Rattle.vpr_text.specs.Words.{Line}
use Rattle.run_inputs.specs.Runs.{writing}
use Rattle.report_run.specs.ReportRun.{lines_read}
use Rattle.route_explain.specs.ExplainRun.{IsTold}
use Rattle.route_explain.proofs.run.explain_to.Goals as goal

pub returns-in-Ok : goal.returns-in-Ok
returns-in-Ok g c =
    let sink = g.W.ByteSink in
    let words = writing (sink.taken c.args.words.now) (sink.taken c.explain_lines.new.words) (sink.failed c.explain_lines.new.words) in
    subst (λ (lines : List Line). IsTold words c.args.file.now.path.now (record { design = c.args.design.now; lines = lines; routing = c.args.routing.now }) c.explain_lines.result)
    (sym (ap lines_read c.in-Ok.ensures)) c.explain_lines.ensures

pub returns-in-Err : goal.returns-in-Err
returns-in-Err g c = record { prints = λ ne. absurd (ne c.told_memory.ensures.fault); memory = λ _. c.told_memory.ensures.line }
