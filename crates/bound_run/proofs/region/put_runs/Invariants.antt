use Rattle.std.specs.List.{flat_map}
use Rattle.text_output.specs.Printing.{PrintsTo}
use Rattle.rr_graph.specs.Fabric.{numbers_below}
use Rattle.bound_run.specs.CutTexts.{corner_text}
use Rattle.bound_run.proofs.region.put_runs.Given as goal

-- what was printed so far was sent
abbrev pub invariant-loop-x : goal.invariant-loop-x
invariant-loop-x g l =
    let sink = g.W.ByteSink in
    PrintsTo sink l.initial.out l.out (flat_map (corner_text l.nx l.cut l.y) (numbers_below l.x))
