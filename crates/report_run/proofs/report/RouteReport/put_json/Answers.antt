use Rattle.std.proofs.Common.{subst, sym, arith}
use Rattle.std.specs.Prelude.{codes}
use Rattle.text_output.specs.Printing.{PrintsTo}
use Rattle.text_output.proofs.Printing.{prints_then}
use Rattle.report_run.specs.JsonReport.{figure_members, list_members, longest_member, over_members}
use Rattle.report_run.specs.Report.{RouteReport, map_member_if, net_members_if, report_json}
use Rattle.report_run.specs.kept.Fields.{report_inside}
use Rattle.report_run.proofs.Members.{all_members}
use Rattle.report_run.proofs.report.RouteReport.put_json.Goals as goal

pub returns : goal.returns
unfolding report_json
returns g c =
    let sink = g.W.ByteSink in
    let s = c.args.out.now in
    let t = c.push-2.new.self in
    let netlist = c.args.netlist.now in
    let p = c.args.problem.now in
    let r = report_inside c.self.inside in
    let nets = rw (sym c.self.view_is) at c.put_net_members_if.ensures in
    let map = rw (sym c.self.view_is) at c.put_map_member_if.ensures in
    let lists = rw (c.device.ensures.device, c.deref.ensures.value, c.deref-2.ensures.value) at c.put_list_members.ensures in
    let over = rw (c.deref-3.ensures.value, c.deref-4.ensures.value) at c.put_over_members.ensures in
    let joined = all_members (figure_members netlist p c.args.bound r.figures) (longest_member netlist p r.figures) (net_members_if c.args.form netlist p r) (list_members p.device r.types r.channels) (map_member_if c.args.form r)
    (over_members netlist p r.uses c.args.lines.now r.overused) (codes "\n") (omega arith) in
    let sent = prints_then c.put_figure_members.ensures (prints_then c.put_longest_member.ensures (prints_then nets (prints_then lists (prints_then map (prints_then over c.push-2.ensures))))) in
    let whole = prints_then c.push.ensures (subst (PrintsTo sink _ t) joined sent) in
    subst (λ (q : RouteReport). PrintsTo sink s t (report_json c.args.form netlist p c.args.bound c.args.lines.now q)) c.self.view_is whole
