use Rattle.std.specs.List.{flat_map}
use Rattle.text_output.specs.Printing.{PrintsTo}
use Rattle.rr_graph.specs.Fabric.{numbers_below}
use Rattle.runs.specs.Listing.{line_at}
use Rattle.runs.proofs.listing.put_lines.Given as goal

-- the lines of the nodes so far were sent
abbrev pub invariant-loop-id : goal.invariant-loop-id
invariant-loop-id g l =
    let sink = g.W.ByteSink in
    PrintsTo sink l.initial.out l.out (flat_map (line_at l.is_typed l.device) (numbers_below l.id))
