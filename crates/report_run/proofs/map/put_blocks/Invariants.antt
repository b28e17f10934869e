use Rattle.std.specs.List.{flat_map}
use Rattle.text_output.specs.Printing.{PrintsTo}
use Rattle.rr_graph.specs.Fabric.{numbers_below}
use Rattle.report_run.specs.Map.{block_at}
use Rattle.report_run.proofs.map.put_blocks.Given as goal

-- the blocks so far were sent
abbrev pub invariant-loop-column : goal.invariant-loop-column
invariant-loop-column g l =
    let sink = g.W.ByteSink in
    PrintsTo sink l.initial.out l.out (flat_map (block_at l.device l.channels l.over l.place) (numbers_below l.column))
