use Rattle.std.specs.List.{flat_map}
use Rattle.text_output.specs.Printing.{PrintsTo}
use Rattle.rr_graph.specs.Fabric.{numbers_below}
use Rattle.report_run.specs.Map.{crossing_at}
use Rattle.report_run.proofs.map.put_crossings.Given as goal

-- the places so far were sent
abbrev pub invariant-loop-place : goal.invariant-loop-place
invariant-loop-place g l =
    let sink = g.W.ByteSink in
    PrintsTo sink l.initial.out l.out (flat_map (crossing_at l.channels l.over l.row) (numbers_below l.place))
