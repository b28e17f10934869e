use Rattle.std.proofs.Common.{take}
use Rattle.std.specs.List.{flat_map}
use Rattle.text_output.specs.Printing.{PrintsTo}
use Rattle.report_run.specs.Channels.{occupancy_line}
use Rattle.report_run.proofs.channels.put_channels.Given as goal

-- the lines of the channels so far were sent
abbrev pub invariant-loop-channel : goal.invariant-loop-channel
invariant-loop-channel g l =
    let sink = g.W.ByteSink in
    PrintsTo sink l.initial.out l.out (flat_map (occupancy_line l.device) (take l.channel-index l.channels))
