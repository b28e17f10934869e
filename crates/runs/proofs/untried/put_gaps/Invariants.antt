use Rattle.std.specs.List.{flat_map}
use Rattle.text_output.specs.Printing.{PrintsTo}
use Rattle.rr_graph.specs.Fabric.{numbers_below}
use Rattle.runs.specs.Untried.{gap_text}
use Rattle.runs.proofs.untried.put_gaps.Given as goal

-- what was printed so far was sent
abbrev pub invariant-loop-width : goal.invariant-loop-width
invariant-loop-width g l =
    let sink = g.W.ByteSink in
    PrintsTo sink l.initial.out l.out (flat_map (gap_text l.trials l.bound l.past l.first) (numbers_below l.width))
