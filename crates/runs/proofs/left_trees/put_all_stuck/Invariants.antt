use Rattle.std.proofs.Common.{take}
use Rattle.std.specs.List.{flat_map}
use Rattle.text_output.specs.Printing.{PrintsTo}
use Rattle.runs.specs.kept.Left.{stuck_net}
use Rattle.runs.proofs.left_trees.put_all_stuck.Given as goal

-- the lines so far were sent
abbrev pub invariant-loop-entry : goal.invariant-loop-entry
invariant-loop-entry g l =
    let sink = g.W.ByteSink in
    PrintsTo sink l.initial.out l.out (flat_map (stuck_net l.netlist l.problem) (take l.entry-index l.stuck))
