use Rattle.std.specs.List.{flat_map}
use Rattle.text_output.specs.Printing.{PrintsTo}
use Rattle.rr_graph.specs.Fabric.{numbers_below}
use Rattle.bound_run.specs.CutTexts.{row_text}
use Rattle.bound_run.proofs.region.put_region.Given as goal

-- what was printed so far was sent
abbrev pub invariant-loop-y : goal.invariant-loop-y
invariant-loop-y g l =
    let sink = g.W.ByteSink in
    PrintsTo sink l.initial.out l.out (flat_map (row_text l.nx l.cut) (numbers_below l.y))
