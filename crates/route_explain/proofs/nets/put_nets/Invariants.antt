use Rattle.std.specs.List.{flat_map}
use Rattle.text_output.specs.Printing.{PrintsTo}
use Rattle.rr_graph.specs.Fabric.{numbers_below}
use Rattle.route_explain.specs.Explanation.{net_text_at}
use Rattle.route_explain.proofs.nets.put_nets.Given as goal

-- what is said of the nets so far was sent
abbrev pub invariant-loop-net : goal.invariant-loop-net
invariant-loop-net g l =
    let sink = g.W.ByteSink in
    PrintsTo sink l.initial.out l.out
    (flat_map (net_text_at l.file.path.now l.file.netlist.now l.file.problem.now l.file.lines.now l.file.routing.now l.found.faults.items) (numbers_below l.net))
