use Rattle.std.proofs.Common.{take}
use Rattle.std.specs.List.{flat_map}
use Rattle.text_output.specs.Printing.{PrintsTo}
use Rattle.nets_run.specs.Nets.{net_line}
use Rattle.nets_run.proofs.lines.put_nets.Given as goal

-- the lines of the nets so far were sent
abbrev pub invariant-loop-net : goal.invariant-loop-net
invariant-loop-net g l =
    let sink = g.W.ByteSink in
    PrintsTo sink l.initial.out l.out (flat_map (net_line l.netlist) (take l.net l.problem.nets))
