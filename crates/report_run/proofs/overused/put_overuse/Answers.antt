use Rattle.std.proofs.Common.{subst}
use Rattle.text_output.specs.Printing.{PrintsTo}
use Rattle.text_output.proofs.Printing.{prints_then}
use Rattle.route_report.specs.Overused.{Overuse}
use Rattle.route_report.specs.kept.Overused.{overuse_inside}
use Rattle.report_run.specs.Overused.{overuse_line}
use Rattle.report_run.proofs.overused.put_overuse.Goals as goal

pub returns : goal.returns
unfolding overuse_line
returns g c =
    let sink = g.W.ByteSink in
    let s = c.args.out.now in
    let t = c.push-5.new.self in
    let node = rw c.device.ensures.device at c.put_node_of.ensures in
    let share = rw (c.from.ensures, c.from-2.ensures) at c.put_share.ensures in
    let names = rw c.deref.ensures.value at c.put_names.ensures in
    let sent : PrintsTo sink s t (overuse_line c.args.netlist.now c.args.problem.now (overuse_inside c.overuse.inside)) =
    prints_then c.push.ensures (prints_then c.put_number.ensures (prints_then c.push-2.ensures (prints_then node (prints_then c.push-3.ensures
    (prints_then share (prints_then c.push-4.ensures (prints_then names c.push-5.ensures))))))) in
    subst (λ (overuse : Overuse). PrintsTo sink s t (overuse_line c.args.netlist.now c.args.problem.now overuse)) c.overuse.view_is sent
