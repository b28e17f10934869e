use Rattle.std.specs.List.{flat_map}
use Rattle.text_output.specs.Printing.{PrintsTo}
use Rattle.rr_graph.specs.Fabric.{numbers_below}
use Rattle.report_run.specs.WireTypes.{type_line_at}
use Rattle.report_run.proofs.wire_types.put_types.Given as goal

-- the lines of the types so far were sent
abbrev pub invariant-loop-number : goal.invariant-loop-number
invariant-loop-number g l =
    let sink = g.W.ByteSink in
    PrintsTo sink l.initial.out l.out (flat_map (type_line_at l.types) (numbers_below l.number))
