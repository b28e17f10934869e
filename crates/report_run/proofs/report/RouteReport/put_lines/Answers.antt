use Rattle.std.proofs.Common.{subst}
use Rattle.text_output.specs.Printing.{PrintsTo}
use Rattle.text_output.proofs.Printing.{prints_then}
use Rattle.report_run.specs.Report.{RouteReport, counted_lines}
use Rattle.report_run.specs.kept.Fields.{report_inside}
use Rattle.report_run.proofs.report.RouteReport.put_lines.Goals as goal

pub returns : goal.returns
unfolding counted_lines
returns g c =
    let sink = g.W.ByteSink in
    let s = c.args.out.now in
    let t = c.put_overused.new.out in
    let types = rw c.deref.ensures.value at c.put_types.ensures in
    let channels = rw (c.device.ensures.device, c.deref-2.ensures.value) at c.put_channels.ensures in
    let overused = rw c.deref-3.ensures.value at c.put_overused.ensures in
    let sent : PrintsTo sink s t (counted_lines c.args.netlist.now c.args.problem.now c.args.bound (report_inside c.self.inside)) =
    prints_then c.put_figures.ensures (prints_then types (prints_then channels overused)) in
    subst (λ (r : RouteReport). PrintsTo sink s t (counted_lines c.args.netlist.now c.args.problem.now c.args.bound r)) c.self.view_is sent
