use Rattle.std.specs.List.{flat_map}
use Rattle.text_output.specs.Printing.{PrintsTo}
use Rattle.rr_graph.specs.Fabric.{numbers_below}
use Rattle.report_run.specs.Named.{named_at}
use Rattle.report_run.proofs.named.put_naming_lines.Given as goal

-- what is said of the lines so far was sent
abbrev pub invariant-loop-index : goal.invariant-loop-index
invariant-loop-index g l =
    let sink = g.W.ByteSink in
    PrintsTo sink l.initial.out l.out (flat_map (named_at l.device l.uses l.lines) (numbers_below l.index))
