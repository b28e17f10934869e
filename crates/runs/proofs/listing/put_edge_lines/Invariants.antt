use Rattle.std.proofs.Common.{take}
use Rattle.std.specs.List.{flat_map}
use Rattle.text_output.specs.Printing.{PrintsTo}
use Rattle.runs.specs.Texts.{edge_line}
use Rattle.runs.proofs.listing.put_edge_lines.Given as goal

-- the lines of the edges so far were sent
abbrev pub invariant-loop-to : goal.invariant-loop-to
invariant-loop-to g l =
    let sink = g.W.ByteSink in
    PrintsTo sink l.initial.out l.out (flat_map (edge_line l.is_typed l.device l.from) (take l.to-index l.list))
