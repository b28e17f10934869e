use Rattle.std.proofs.Common.{subst}
use Rattle.text_output.specs.Printing.{PrintsTo}
use Rattle.text_output.proofs.Printing.{prints_then}
use Rattle.report_run.specs.Json.{next_item}
use Rattle.report_run.specs.JsonReport.{occupied_json}
use Rattle.report_run.proofs.Loops.{each_more}
use Rattle.report_run.proofs.json_map.put_more_occupied.Goals as goal

pub loop-channel-preserved : goal.loop-channel-preserved
loop-channel-preserved g c =
    let sink = g.W.ByteSink in
    let s = c.args.out.now in
    let t = c.put_next_occupied.new.out in
    let more = each_more (next_item occupied_json) c.args.channels.now c.loop-channel.channel-index c.channel-item.result c.loop-channel-test.true c.channel-item.is in
    subst (PrintsTo sink s t) more (prints_then c.loop-channel.invariant c.put_next_occupied.ensures)
