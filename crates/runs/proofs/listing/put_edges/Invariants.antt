use Rattle.std.proofs.Common.{◌≤◌}
use Rattle.std.specs.List.{flat_map}
use Rattle.text_output.specs.Printing.{PrintsTo}
use Rattle.rr_graph.specs.Fabric.{numbers_below}
use Rattle.runs.specs.Listing.{edge_lines_at}
use Rattle.runs.proofs.listing.put_edges.Given as goal

-- the lines of the edges so far were sent, and the list has kept its room
abbrev pub invariant-loop-id : goal.invariant-loop-id
invariant-loop-id g l =
    let sink = g.W.ByteSink in
    PrintsTo sink l.initial.out l.out (flat_map (edge_lines_at l.is_typed l.device) (numbers_below l.id))
    × (l.initial.list.capacity ≤ l.list.capacity)
