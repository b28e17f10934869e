use Rattle.std.specs.List.{flat_map}
use Rattle.text_output.specs.Printing.{PrintsTo}
use Rattle.rr_graph.specs.Fabric.{numbers_below}
use Rattle.report_run.specs.Map.{row_lines}
use Rattle.report_run.proofs.map.put_rows.Given as goal

-- the rows so far were sent
abbrev pub invariant-loop-above : goal.invariant-loop-above
invariant-loop-above g l =
    let sink = g.W.ByteSink in
    PrintsTo sink l.initial.out l.out (flat_map (row_lines l.device l.channels l.over) (numbers_below l.above))
