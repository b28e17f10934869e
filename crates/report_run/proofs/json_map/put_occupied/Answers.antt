use Rattle.std.proofs.Common.{subst}
use Rattle.text_output.specs.Printing.{PrintsTo}
use Rattle.route_report.specs.Channels.{Channel}
use Rattle.route_report.specs.kept.Channels.{channel_inside}
use Rattle.report_run.specs.JsonReport.{occupied_json}
use Rattle.report_run.proofs.json_map.put_occupied.Goals as goal

pub returns : goal.returns
unfolding occupied_json
returns g c =
    let sink = g.W.ByteSink in
    let s = c.args.out.now in
    let t = c.put_numbers.new.out in
    let sent : PrintsTo sink s t (occupied_json (channel_inside c.channel.inside)) = rw c.deref.ensures.value at c.put_numbers.ensures in
    subst (λ (channel : Channel). PrintsTo sink s t (occupied_json channel)) c.channel.view_is sent
