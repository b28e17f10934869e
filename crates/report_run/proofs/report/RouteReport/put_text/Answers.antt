use Rattle.std.proofs.Common.{◌≡◌, ap, ◌∙◌}
use Rattle.text_output.proofs.Printing.{prints_then}
use Rattle.report_run.specs.Report.{RouteReport, route_report_text}
use Rattle.report_run.proofs.report.RouteReport.put_text.Goals as goal

pub returns : goal.returns
unfolding route_report_text
returns g c =
    let uses : c.deref.result.now ≡ c.args.self.now.uses = c.deref.ensures.value ∙ ap (λ (r : RouteReport). r.uses) c.self.view_is in
    let named = rw (c.device.ensures.device, uses) at c.put_naming_lines.ensures in
    let map = rw c.device-2.ensures.device at c.put_map_if.ensures in
    prints_then c.put_lines.ensures (prints_then named (prints_then c.put_nets_if.ensures map))
