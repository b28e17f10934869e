use Rattle.std.proofs.Common.{take}
use Rattle.std.specs.List.{flat_map}
use Rattle.text_output.specs.Printing.{PrintsTo}
use Rattle.report_run.specs.Overused.{overuse_line}
use Rattle.report_run.proofs.overused.put_each.Given as goal

-- the lines of the nodes so far were sent
abbrev pub invariant-loop-overuse : goal.invariant-loop-overuse
invariant-loop-overuse g l =
    let sink = g.W.ByteSink in
    PrintsTo sink l.initial.out l.out (flat_map (overuse_line l.netlist l.problem) (take l.overuse-index l.nodes))
