use Rattle.std.proofs.Common.{subst}
use Rattle.text_output.specs.Printing.{PrintsTo}
use Rattle.text_output.proofs.Printing.{prints_then}
use Rattle.route_report.specs.Channels.{Channel}
use Rattle.route_report.specs.kept.Channels.{channel_inside}
use Rattle.report_run.specs.Channels.{occupancy_line}
use Rattle.report_run.proofs.channels.put_channel.Goals as goal

pub returns : goal.returns
unfolding occupancy_line
returns g c =
    let sink = g.W.ByteSink in
    let s = c.args.out.now in
    let t = c.push-5.new.self in
    let axis = rw c.axis_name.ensures at c.push-2.ensures in
    let mean = rw c.places_of_channel.ensures at c.put_mean.ensures in
    let sent : PrintsTo sink s t (occupancy_line c.args.device.now (channel_inside c.channel.inside)) =
    prints_then c.push.ensures (prints_then axis (prints_then c.put_number.ensures (prints_then c.push-3.ensures (prints_then c.put_number-2.ensures
    (prints_then c.push-4.ensures (prints_then mean c.push-5.ensures)))))) in
    subst (λ (channel : Channel). PrintsTo sink s t (occupancy_line c.args.device.now channel)) c.channel.view_is sent
