use Rattle.std.proofs.Common.{take}
use Rattle.std.specs.List.{flat_map}
use Rattle.text_output.specs.Printing.{PrintsTo}
use Rattle.nets_run.specs.Nets.{sink_text}
use Rattle.nets_run.proofs.lines.put_sinks.Given as goal

-- the numbers of the sinks so far were sent
abbrev pub invariant-loop-node : goal.invariant-loop-node
invariant-loop-node g l =
    let sink = g.W.ByteSink in
    PrintsTo sink l.initial.out l.out (flat_map sink_text (take l.node-index l.nodes))
