use Rattle.std.proofs.Common.{take}
use Rattle.std.specs.List.{flat_map}
use Rattle.text_output.specs.Printing.{PrintsTo}
use Rattle.report_run.specs.Json.{next_item}
use Rattle.report_run.specs.JsonReport.{channel_json}
use Rattle.report_run.proofs.json_channels.put_more_channels.Given as goal

-- what is said of those so far was sent
abbrev pub invariant-loop-channel : goal.invariant-loop-channel
invariant-loop-channel g l =
    let sink = g.W.ByteSink in
    PrintsTo sink l.initial.out l.out (flat_map (next_item (channel_json l.device)) (take l.channel-index l.channels))
