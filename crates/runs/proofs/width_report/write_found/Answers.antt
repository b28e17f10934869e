use Rattle.std.proofs.lemmas.Result.{err_from_is_err_and}
use Rattle.route_file.specs.Text.{text_of}
use Rattle.run_inputs.specs.Runs.{writing}
use Rattle.runs.specs.WidthRun.{report_text}
use Rattle.run_inputs.proofs.Ending.{Keeps-same}
use Rattle.runs.proofs.Widths.{found_unprinted}
use Rattle.runs.proofs.width_report.write_found.Goals as goal

pub returns-in_err-print_report-clause-writes : goal.returns-in_err-print_report-clause-writes
returns-in_err-print_report-clause-writes g c =
    let sink = g.W.ByteSink in
    let taken = g.R.ByteSink.taken c.args.route.now in
    let p = err_from_is_err_and c.from_residual.result c.from_residual.ensures.1 in
    rw (p.1, p.2) (found_unprinted (report_text c.args.report.now) (text_of c.args.placed.now.netlist c.args.placed.now.placement c.args.problem.now c.args.routing.now)
    (writing taken taken (g.R.ByteSink.failed c.args.route.now)) (sink.taken c.args.out.now) (sink.taken c.print_report.new.out) (sink.failed c.print_report.new.out)
    c.in_err-print_report.field-0.0 c.in_err-print_report.ensures (Keeps-same taken))
