use Rattle.std.proofs.Common.{subst}
use Rattle.text_output.specs.Printing.{PrintsTo}
use Rattle.text_output.proofs.Printing.{prints_then}
use Rattle.report_run.specs.Json.{next_item}
use Rattle.report_run.specs.JsonReport.{overuse_json}
use Rattle.report_run.proofs.Loops.{each_more}
use Rattle.report_run.proofs.json_overused.put_more_overuses.Goals as goal

pub loop-overuse-preserved : goal.loop-overuse-preserved
loop-overuse-preserved g c =
    let sink = g.W.ByteSink in
    let s = c.args.out.now in
    let t = c.put_next_overuse.new.out in
    let more = each_more (next_item (overuse_json c.args.netlist.now c.args.problem.now)) c.args.nodes.now c.loop-overuse.overuse-index c.overuse-item.result c.loop-overuse-test.true c.overuse-item.is in
    subst (PrintsTo sink s t) more (prints_then c.loop-overuse.invariant c.put_next_overuse.ensures)
