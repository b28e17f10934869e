use Rattle.std.proofs.Common.{subst}
use Rattle.text_output.specs.Printing.{PrintsTo}
use Rattle.text_output.proofs.Printing.{prints_then}
use Rattle.report_run.specs.Overused.{overuse_line}
use Rattle.report_run.proofs.Loops.{each_more}
use Rattle.report_run.proofs.overused.put_each.Goals as goal

pub loop-overuse-preserved : goal.loop-overuse-preserved
loop-overuse-preserved g c =
    let sink = g.W.ByteSink in
    let s = c.args.out.now in
    let t = c.put_overuse.new.out in
    let more = each_more (overuse_line c.args.netlist.now c.args.problem.now) c.args.nodes.now c.loop-overuse.overuse-index c.overuse-item.result c.loop-overuse-test.true c.overuse-item.is in
    subst (PrintsTo sink s t) more (prints_then c.loop-overuse.invariant c.put_overuse.ensures)
