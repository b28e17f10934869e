use Rattle.std.proofs.Common.{◌≡◌, take}
use Rattle.std.specs.List.{flat_map}
use Rattle.text_output.specs.Printing.{PrintsTo}
use Rattle.rr_graph.specs.Fabric.{numbers_below}
use Rattle.route_file.specs.Sections.{latest}
use Rattle.route_explain.specs.Uses.{use_text_at}
use Rattle.route_explain.proofs.uses.put_use_lines.Given as goal

-- what is said of the lines so far was sent, and the next one stands in the section of this net
abbrev pub invariant-loop-index : goal.invariant-loop-index
invariant-loop-index g l =
    let sink = g.W.ByteSink in
    PrintsTo sink l.initial.out l.out
    (flat_map (use_text_at l.file.path.now l.file.netlist.now l.file.problem.now l.file.routing.now l.file.lines.now) (numbers_below l.index))
    × (l.net ≡ latest l.file.netlist.now (take l.index l.file.lines.now))
